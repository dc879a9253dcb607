-- The place that a ticket of an outbox gives.
use Rattle.ckpt_outbox.proofs.Names.{common_steps, ◌≡◌, ◌+◌, ◌-◌, ◌<◌, ◌≤◌, ◌%◌, ◌^◌, ℕ, suc, length, get_or, arith, true, false, cond, ◌==◌, List, [], ◌∷◌, ◌++◌, Some, ⊎_elim, or_cases, list_any_at}
use Rattle.ckpt_outbox.proofs.Names.{is_in, IsTicketed, is_apart, ticket, Option, is_some, AreDistinct}
use Rattle.ckpt_outbox.proofs.QueueLemmas.{distinct-apart}

-- numbers

offset : (front place : ℕ) → front < 2 ^ 64 → place < 2 ^ 64 → (ticket front place + (2 ^ 64 - front)) % 2 ^ 64 ≡ place
offset front place f p = omega arith

-- places

found_at : (x : ℕ) (xs : List ℕ) → is_in x xs ≡ true → (i : ℕ) × (i < length xs) × (get_or xs i 0 ≡ x)
found_at x [] h = grind arith
found_at x (y ∷ ys) h =
    ⊎_elim (λ (e : (x == y) ≡ true). (0, grind arith, grind arith)) (λ (k : is_in x ys ≡ true). let r = found_at x ys k in (suc r.0, grind arith, grind arith)) (or_cases (x == y) (is_in x ys) h)

stands : (xs : List ℕ) (i : ℕ) → i < length xs → is_in (get_or xs i 0) xs ≡ true
stands xs i h = list_any_at (λ g. get_or xs i 0 == g) xs i 0 h (grind arith)

-- what a ticket says, where a waiting file has the ticket of its place
module _ (ws : List ℕ) (front file drawn : ℕ) (f : front < 2 ^ 64) (few : length ws ≤ 2 ^ 64) (tickets : (i : ℕ) → i < length ws → get_or ws i 0 ≡ file → drawn ≡ ticket front i) where
  at_its_place : is_in file ws ≡ true → ((drawn + (2 ^ 64 - front)) % 2 ^ 64 < length ws) × (get_or ws ((drawn + (2 ^ 64 - front)) % 2 ^ 64) 0 ≡ file)
  at_its_place h = let r = found_at file ws h in grind (arith, offset front r.0, tickets r.0 r.1 r.2, r.1, r.2)

  pub waits_there : (drawn + (2 ^ 64 - front)) % 2 ^ 64 < length ws → (get_or ws ((drawn + (2 ^ 64 - front)) % 2 ^ 64) 0 == file) ≡ is_in file ws
  waits_there within = grind (arith, at_its_place, stands ws ((drawn + (2 ^ 64 - front)) % 2 ^ 64))

  pub waits_not : ((drawn + (2 ^ 64 - front)) % 2 ^ 64 < length ws → ⊥) → is_in file ws ≡ false
  waits_not beyond = grind (arith, at_its_place)

-- the ticket that the index has
pub ticket_found : (tickets : ℕ → Option ℕ) (file other drawn n : ℕ) → Some drawn ≡ tickets file → other ≡ file → tickets other ≡ Some n → drawn ≡ n
ticket_found tickets file other drawn n found same other_has = cc

-- what the index has of a file
pub tells_taken : (tickets : ℕ → Option ℕ) (ws ts : List ℕ) (x : ℕ) → AreDistinct (ws ++ ts) → is_some (tickets x) ≡ is_in x (ws ++ ts) → is_apart tickets ws x ≡ is_in x ts
tells_taken tickets ws ts x d known = grind (arith, common_steps, distinct-apart ws ts d x)

-- the tickets of the files that wait, after a change

pub ticketed_apart : (was is : ℕ → Option ℕ) (front file : ℕ) (ws : List ℕ) (o : Option ℕ) → ((x : ℕ) → is x ≡ cond (file == x) o (was x)) → is_in file ws ≡ false
    → IsTicketed was front ws → IsTicketed is front ws
ticketed_apart was is front file ws o changed new h = λ i within. grind (arith, changed (get_or ws i 0), stands ws i within, h i within)

pub ticketed_put : (was is : ℕ → Option ℕ) (front file : ℕ) (ws : List ℕ) → ((x : ℕ) → is x ≡ cond (file == x) (Some (ticket front (length ws))) (was x)) → is_in file ws ≡ false
    → IsTicketed was front ws → IsTicketed is front (ws ++ file ∷ [])
ticketed_put was is front file ws changed new h = λ i within. grind (arith, common_steps, changed (get_or (ws ++ file ∷ []) i 0), stands ws i, h i)

pub ticketed_taken : (tickets : ℕ → Option ℕ) (front file : ℕ) (ws : List ℕ) → IsTicketed tickets front (file ∷ ws) → IsTicketed tickets ((front + 1) % 2 ^ 64) ws
ticketed_taken tickets front file ws h = λ i within.
    let next : ticket ((front + 1) % 2 ^ 64) i ≡ ticket front (suc i) = omega arith in
    rw next (h (suc i) (omega arith))
