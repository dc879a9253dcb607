-- How often a file is in lists that have each file once, and which files are taken by the index.
use Rattle.ckpt_outbox.proofs.Names.{◌≡◌, ◌∙◌, ℕ, Bool, true, false, cond, eqb, List, [], ◌∷◌, ◌++◌, filter, refl, sym, ap, nat_eq, arith, AllByRecursion, ascending, one_if, times}
use Rattle.ckpt_outbox.proofs.Names.{IsAscending-ascending, same_from_times, times-ascending, times-cons, times-filter, AreDistinct-right, is_apart, is_in, Option, is_some, AreDistinct}
use Rattle.ckpt_outbox.proofs.QueueLemmas.{not_in}
use Rattle.ckpt_outbox.proofs.TicketLemmas.{tells_taken}
use Rattle.std.specs.List.{IsDistinct}

once_more : (f x : ℕ) (xs : List ℕ) → (eqb f x ≡ true → is_in f xs ≡ false) → times f xs ≡ one_if (is_in f xs) → times f (x ∷ xs) ≡ one_if (is_in f (x ∷ xs))
once_more f x xs apart same = grind (arith, times-cons f x xs)

apart_from : (x : ℕ) (xs : List ℕ) → AllByRecursion (λ y. eqb x y ≡ false) xs → is_in x xs ≡ false
apart_from x [] a = refl
apart_from x (y ∷ xs) a = grind (arith, apart_from x xs a.1)

-- keys of a table
times-keys : (f : ℕ) (xs : List ℕ) → IsDistinct nat_eq xs → times f xs ≡ one_if (is_in f xs)
unfolding IsDistinct
times-keys f [] d = refl
times-keys f (x ∷ xs) d = once_more f x xs (λ e. grind (arith, apart_from x xs d.0)) (times-keys f xs d.1)

-- a list without repeats
pub times-distinct : (f : ℕ) (xs : List ℕ) → AreDistinct xs → times f xs ≡ one_if (is_in f xs)
times-distinct f [] d = refl
times-distinct f (x ∷ xs) d = once_more f x xs (λ e. grind (arith, not_in x xs d.0)) (times-distinct f xs d.1)

-- the index of a file that does not wait
once_apart : (tickets : ℕ → Option ℕ) (ws : List ℕ) (b : Bool) (f : ℕ) → is_some (tickets f) ≡ b → cond (is_apart tickets ws f) (one_if b) 0 ≡ one_if (is_apart tickets ws f)
once_apart tickets ws b f e = grind arith

-- the files of the index that do not wait are the taken ones
pub taken-from_index : (tickets : ℕ → Option ℕ) (keys ws ts : List ℕ) → IsDistinct nat_eq keys → ((f : ℕ) → is_some (tickets f) ≡ is_in f keys) → AreDistinct (ws ++ ts)
    → ((f : ℕ) → is_some (tickets f) ≡ is_in f (ws ++ ts)) → ascending (filter (is_apart tickets ws) keys) ≡ ascending ts
taken-from_index tickets keys ws ts unique has apart known =
    let each : (f : ℕ) → times f (filter (is_apart tickets ws) keys) ≡ times f ts = λ f.
    times-filter (is_apart tickets ws) f keys
    ∙ ap (λ n. cond (is_apart tickets ws f) n 0) (times-keys f keys unique)
    ∙ once_apart tickets ws (is_in f keys) f (has f)
    ∙ ap one_if (tells_taken tickets ws ts f apart (known f))
    ∙ sym (times-distinct f ts (AreDistinct-right ws ts apart)) in
    same_from_times (ascending (filter (is_apart tickets ws) keys)) (ascending ts) (IsAscending-ascending (filter (is_apart tickets ws) keys)) (IsAscending-ascending ts)
    (λ f. times-ascending f (filter (is_apart tickets ws) keys) ∙ each f ∙ sym (times-ascending f ts))
