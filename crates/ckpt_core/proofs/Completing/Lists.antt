-- Which numbers the completion of a checkpoint notes: those of the pending checkpoints before it, and that of the first
-- completed one if there are now too many.
use Rattle.ckpt_core.proofs.Names.{◌≡◌, ℕ, ◌+◌, ◌<◌, ◌≤◌, Bool, true, false, not, ◌||◌, cond, ltb, leb, eqb, List, [], ◌∷◌, ◌++◌, map, length, refl, sym, ap, ◌∙◌, inl, inr, ⊎_elim, arith, Some, None}
use Rattle.ckpt_core.proofs.Names.{count_by, filter, both_ways, ltb-true, lt-ltb, le-ltb, ltb-false, lt-leb, le-leb, eq-eqb, ne_eqb, and_parts, or_left, not_from_false, false_from_ne_true}
use Rattle.ckpt_core.proofs.Names.{list_any-append, count_by-le-length, or-false, IsIn, ComesBefore, Record, Use, IsIn-append_cases, IsIn-append_left, IsIn-append_right, IsIn-map, IsIn-filter}
use Rattle.ckpt_core.proofs.Names.{IsIn-from_filter, ComesBefore-at, filter-all, Stored, AreRising, IsAbove, lowest, past_retained, retained_of, number_in, surplus, earlier, is_before, with_pins}
use Rattle.ckpt_core.proofs.Names.{grouped, is_noted, id_before, is_checkpoint, count_by_at_most_more, count_by_yes, count_by_no, count_by-none, count_by-all, cond_both, only_one, common_steps}
use Rattle.ckpt_core.specs.Inside.Completing.{superseded_ids}
use Rattle.ckpt_core.proofs.Ending.Drops.{noted-from_IsIn, IsIn-from_noted}
use Rattle.ckpt_core.proofs.Records.Grouped.{AreApart, apart_left, apart_right, apart_between}
use Rattle.ckpt_core.proofs.Records.GroupLookups.{same_tests}
use Rattle.ckpt_core.proofs.Records.Lookups.{one_of_number}

-- a row of records in rising number

abbrev pub later_in : List Record → Record → ℕ
later_in row x = count_by (λ s. ltb x.id s.id) row

-- whether it is the first, and there are more than n
abbrev pub is_past : ℕ → List Record → Record → Bool
is_past n row x = is_noted (number_in (past_retained n row)) x

past_where : (n : ℕ) (y : Record) (row : List Record) (x : Record) → ltb n (length (y ∷ row)) ≡ true → is_past n (y ∷ row) x ≡ (eqb x.id y.id || false)
past_where n y row x e = ap (λ b. is_noted (number_in (cond b (Some y.id) None)) x) e

none_past : (n : ℕ) (row : List Record) (x : Record) → ltb n (length row) ≡ false → is_past n row x ≡ false
none_past n row x e = ap (λ b. is_noted (number_in (cond b (lowest row) None)) x) e

pub rises : (y x : Record) (row : List Record) → ComesBefore id_before y row → IsIn x row → y.id < x.id
rises y x row c h = ltb-true y.id x.id (ComesBefore-at id_before y x row c h)

module _ (n : ℕ) (y : Record) (row : List Record) (order : AreRising (y ∷ row)) (e : ltb n (length (y ∷ row)) ≡ true) where
  -- if there are too many, the first is past, and it alone
  first_past : is_past n (y ∷ row) y ≡ true
  first_past = past_where n y row y e ∙ or_left (eqb y.id y.id) false (eq-eqb y.id y.id refl)

  rest_not_past : (x : Record) → IsIn x row → is_past n (y ∷ row) x ≡ false
  rest_not_past x h = past_where n y row x e ∙ ap (λ b. b || false) (ne_eqb x.id y.id (λ k. let lt : y.id < x.id = rises y x row order.0 h in absurd (omega arith)))

-- what stays is what is retained
pub retained_is : (n : ℕ) (row : List Record) → AreRising row → filter (λ x. not (is_past n row x)) row ≡ retained_of n row
retained_is n [] order = grind (arith, common_steps)
retained_is n (y ∷ row) order = let keep : Record → Bool = λ x. not (is_past n (y ∷ row) x) in
    cond_both (ltb n (length (y ∷ row))) row (y ∷ row) (λ l. filter keep (y ∷ row) ≡ l) (λ e. ap (λ b. cond b (y ∷ filter keep row) (filter keep row)) (ap not (first_past n y row order e))
    ∙ filter-all keep row (λ x h. ap not (rest_not_past n y row order e x h))) (λ e. filter-all keep (y ∷ row) (λ x h. ap not (none_past n (y ∷ row) x e)))

pub fewer : {X : Type 0} (p : X → Bool) (x : X) (xs : List X) → IsIn x xs → p x ≡ false → count_by p xs < length xs
fewer p x [] h e = absurd h
fewer p x (y ∷ xs) (inl same) e = omega (arith, count_by_no p y xs (ap p (sym same) ∙ e), count_by-le-length p xs)
fewer p x (y ∷ xs) (inr h) e = omega (arith, fewer p x xs h e, count_by_at_most_more p y xs)

-- the first of too many has as many later ones as are retained
pub past_is_surplus : (n : ℕ) (row : List Record) (x : Record) → AreRising row → length row ≤ n + 1 → 1 ≤ n → IsIn x row → leb n (later_in row x) ≡ is_past n row x
past_is_surplus n [] x order few some h = absurd h
past_is_surplus n (y ∷ row) x order few some (inl same) = let later : Record → Bool = λ s. ltb x.id s.id in let its : x.id ≡ y.id = ap (λ s. s.id) same in
    let all : count_by later row ≡ length row = count_by-all later row (λ s h. lt-ltb x.id s.id (let lt : y.id < s.id = rises y s row order.0 h in omega arith)) in
    let count : later_in (y ∷ row) x ≡ length row = omega (arith, count_by_no later y row (le-ltb x.id y.id (omega arith)), all) in
    cond_both (ltb n (length (y ∷ row))) (Some y.id) None (λ o. leb n (later_in (y ∷ row) x) ≡ is_noted (number_in o) x) (λ e. let many : n < length (y ∷ row) = ltb-true n (length (y ∷ row)) e in
    le-leb n (later_in (y ∷ row) x) (omega arith) ∙ sym (or_left (eqb x.id y.id) false (eq-eqb x.id y.id its))) (λ e. let not_many : length (y ∷ row) ≤ n = ltb-false n (length (y ∷ row)) e in
    lt-leb n (later_in (y ∷ row) x) (omega arith))
past_is_surplus n (y ∷ row) x order few some (inr h) = let later : Record → Bool = λ s. ltb x.id s.id in let lt : y.id < x.id = rises y x row order.0 h in
    let less : count_by later row < length row = fewer later x row h (le-ltb x.id x.id (omega arith)) in
    let left : leb n (later_in (y ∷ row) x) ≡ false = lt-leb n (later_in (y ∷ row) x) (omega (arith, count_by_no later y row (le-ltb x.id y.id (omega arith)))) in
    cond_both (ltb n (length (y ∷ row))) (Some y.id) None (λ o. leb n (later_in (y ∷ row) x) ≡ is_noted (number_in o) x) (λ e. left
    ∙ sym (ap (λ b. b || false) (ne_eqb x.id y.id (λ k. omega arith)))) (λ e. left)

-- it is one of those that were there before the last
pub past_in_front : (n : ℕ) (row : List Record) (d x : Record) → 1 ≤ n → is_past n (row ++ d ∷ []) x ≡ true → (y : Record) × IsIn y row × (x.id ≡ y.id)
past_in_front n [] d x some h = absurd (both_ways (is_past n (d ∷ []) x) (none_past n (d ∷ []) x (le-ltb n 1 some)) h)
past_in_front n (y ∷ row) d x some h = grind (arith, common_steps)

-- how many are past
pub past_count : (n : ℕ) (row : List Record) → AreRising row → count_by (is_past n row) row ≡ length (number_in (past_retained n row))
past_count n [] order = grind (arith, common_steps)
past_count n (y ∷ row) order = let past : Record → Bool = is_past n (y ∷ row) in
    cond_both (ltb n (length (y ∷ row))) (Some y.id) None (λ o. count_by past (y ∷ row) ≡ length (number_in o))
    (λ e. omega (arith, count_by_yes past y row (first_past n y row order e), count_by-none past row (rest_not_past n y row order e)))
    (λ e. count_by-none past (y ∷ row) (λ x h. none_past n (y ∷ row) x e))

-- the numbers that are noted

noted_parts : (pending : List Record) (store : Stored) (d x : Record) → is_noted (superseded_ids pending store d) x ≡ (is_noted (earlier d.id pending) x || is_past store.retained
    (store.checkpoints ++ d ∷ []) x)
noted_parts pending store d x = list_any-append (λ i. eqb x.id i) (earlier d.id pending) (surplus store d)

-- the pending records without the one that completes
abbrev pub others : ℕ → List Record → List Record
others id pending = filter (λ r. not (eqb r.id id)) pending

-- what is known if a pending record of the number of d completes
pub record IsFinishing (us : List Use) (pending : List Record) (store : Stored) (r d : Record) : Type 0 where
  pub apart : AreApart (grouped us pending store.checkpoints store.savepoints)
  pub there : IsIn r pending
  pub same : d.id ≡ r.id
  pub above : IsAbove store.checkpoints d.id
  pub rising : AreRising store.checkpoints
  pub few : length store.checkpoints ≤ store.retained
  pub some : 1 ≤ store.retained

in_earlier : (id : ℕ) (pending : List Record) (x : Record) → is_noted (earlier id (others id pending)) x ≡ true → (y : Record) × IsIn y pending × (is_before id y ≡ true) × (x.id ≡ y.id)
in_earlier id pending x h = grind (arith, common_steps, IsIn-from_filter, IsIn-from_noted)

before_number : (id : ℕ) (y : Record) → is_before id y ≡ true → y.id < id
before_number id y h = ltb-true y.id id (and_parts (is_checkpoint y) (ltb y.id id) h).1

earlier_is : (us : List Use) (id : ℕ) (pending done : List Record) (x : Record) → AreApart (map (with_pins us) pending ++ done) → IsIn x pending →
    is_noted (earlier id (others id pending)) x ≡ is_before id x
earlier_is us id pending done x apart h = same_tests (is_noted (earlier id (others id pending)) x) (is_before id x) (λ k. let y = in_earlier id pending x k in
    let its : (z : Record) → IsIn z pending → IsIn (with_pins us z) (map (with_pins us) pending) = λ z i. IsIn-map (with_pins us) z pending i in
    ap (is_before id) (one_of_number (map (with_pins us) pending) (apart_left (map (with_pins us) pending) done apart) (with_pins us x) (with_pins us y.0) (its x h) (its y.0 y.1) y.3) ∙ y.2) (λ e.
    let o : not (eqb x.id id) ≡ true = not_from_false (eqb x.id id) (ne_eqb x.id id (λ k. omega (arith, before_number id x e))) in
    noted-from_IsIn x x (filter (is_before id) (others id pending)) (IsIn-filter (is_before id) x (others id pending) (IsIn-filter (λ r. not (eqb r.id id)) x pending h o) e) refl)

module _ {us : List Use} {pending : List Record} {store : Stored} {r d : Record} (f : IsFinishing us pending store r d) where
  abbrev row : List Record
  row = store.checkpoints ++ d ∷ []

  abbrev done : List Record
  done = store.checkpoints ++ store.savepoints

  -- of the pending ones, those before it
  pub noted_pending : (x : Record) → IsIn x pending → is_noted (superseded_ids (others d.id pending) store d) x ≡ is_before d.id x
  noted_pending x h = grind (arith, common_steps, IsIn-append_left, IsIn-map, apart_between, earlier_is, false_from_ne_true, noted_parts, or-false, past_in_front)

  -- no done one has the number of a pending one that is noted
  not_earlier : (x : Record) → ((y : Record) → IsIn y pending → y.id < d.id → x.id ≡ y.id → ⊥) → is_noted (earlier d.id (others d.id pending)) x ≡ false
  not_earlier x none = false_from_ne_true (is_noted (earlier d.id (others d.id pending)) x) (λ (k : is_noted (earlier d.id (others d.id pending)) x ≡ true). let y = in_earlier d.id pending x k in
      none y.0 y.1 (before_number d.id y.0 y.2) y.3)

  apart_from : (x y : Record) → IsIn x done → IsIn y pending → x.id ≡ y.id → ⊥
  apart_from x y h k e = apart_between (map (with_pins us) pending) done f.apart (with_pins us y) x (IsIn-map (with_pins us) y pending k) h (sym e)

  -- of the completed ones, the first if there are too many
  pub noted_row : (x : Record) → IsIn x row → is_noted (superseded_ids (others d.id pending) store d) x ≡ is_past store.retained row x
  noted_row x h = noted_parts (others d.id pending) store d x ∙ ap (λ b. b || is_past store.retained row x) (not_earlier x (λ y k lt e.
      ⊎_elim (λ c. apart_from x y (IsIn-append_left x store.checkpoints store.savepoints c) k e) (λ (c : IsIn x (d ∷ [])). let its : x.id ≡ d.id = ap (λ s. s.id) (only_one x d c) in
      absurd (omega arith)) (IsIn-append_cases x store.checkpoints (d ∷ []) h)))

  -- of the savepoints, none
  pub noted_savepoint : (x : Record) → IsIn x store.savepoints → is_noted (superseded_ids (others d.id pending) store d) x ≡ false
  noted_savepoint x h = let not_past : is_past store.retained row x ≡ false = false_from_ne_true (is_past store.retained row x) (λ (k : is_past store.retained row x ≡ true).
      let y = past_in_front store.retained store.checkpoints d x f.some k in
      apart_between store.checkpoints store.savepoints (apart_right (map (with_pins us) pending) done f.apart) y.0 x y.1 h (sym y.2)) in
      noted_parts (others d.id pending) store d x ∙ ap (λ b. b || is_past store.retained row x) (not_earlier x (λ y k lt e. apart_from x y
      (IsIn-append_right x store.checkpoints store.savepoints h) k e)) ∙ not_past
