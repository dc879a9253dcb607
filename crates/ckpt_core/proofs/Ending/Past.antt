-- The completed checkpoints past a number retained are the oldest ones.
use Rattle.ckpt_core.proofs.Names.{◌≡◌, ℕ, zero, suc, ◌+◌, ◌-◌, ◌<◌, ◌≤◌, Bool, true, false, not, ◌&&◌, ◌||◌, cond, ltb, leb, eqb, List, [], ◌∷◌, ◌++◌, map, length, refl, sym, ap, subst, ◌∙◌, inl, inr, ⊎_elim}
use Rattle.ckpt_core.proofs.Names.{arith, take, count_by, vec_capacity, cases_Bool, ltb-true, ltb-false, lt-ltb, le-ltb, le-leb, lt-leb, eq-eqb, ne_eqb, or_left, and_from, and_right}
use Rattle.ckpt_core.proofs.Names.{false_from_ne_true, length-filter, length-filter_both, filter-all, filter-same, take-append-drop, IsIn, Record, released, without}
use Rattle.ckpt_core.proofs.Names.{IsIn-append_left, IsIn-append_cases, IsIn-map, IsIn-from_map, IsIn-from_in_order, AreRising, IsStored, Parts, AreTied, Drops, with_pins, grouped, is_noted}
use Rattle.ckpt_core.proofs.Names.{records_in, state_of, id_before, IsSound, is_checkpoint, is_done_checkpoint, is_checkpoint-kind, is_savepoint-kind, dropped_by, count_by_no, count_by-none, count_by-all, count_by-same}
use Rattle.std.specs.Prelude as prelude
use Rattle.std.proofs.lemmas.List.{append_assoc, append_cancel_right, length-append, length-drop, map-append}
use Rattle.ckpt_core.specs.Inside.Settings.{past, oldest, newest, without_oldest}
use Rattle.ckpt_core.proofs.Completing.Lists.{fewer, later_in, rises}
use Rattle.ckpt_core.proofs.Ending.Drops.{apart_in, drops_from, drops_same, IsIn-from_noted, left, numbers, staying, stays}
use Rattle.ckpt_core.proofs.Ending.DropDone.{handed}
use Rattle.ckpt_core.proofs.Records.{Grouped.AreApart, Grouped.apart_between, Grouped.apart_right, Lookups.AreGroups, Lookups.count_by-records_of}

-- rows

few_old : (n : ℕ) (row : List Record) → length row ≤ n → oldest n row ≡ []
few_old n row few = let none : length row - n ≡ 0 = omega arith in ap (λ k. take k row) none

all_new : (n : ℕ) (row : List Record) → length row ≤ n → newest n row ≡ row
all_new n row few = let none : length row - n ≡ 0 = omega arith in ap (λ k. prelude.drop k row) none

many_old : (n : ℕ) (y : Record) (row : List Record) → n < length (y ∷ row) → oldest n (y ∷ row) ≡ y ∷ oldest n row
many_old n y row many = let more : length (y ∷ row) - n ≡ suc (length row - n) = omega arith in ap (λ k. take k (y ∷ row)) more

fewer_new : (n : ℕ) (y : Record) (row : List Record) → n < length (y ∷ row) → newest n (y ∷ row) ≡ newest n row
fewer_new n y row many = let more : length (y ∷ row) - n ≡ suc (length row - n) = omega arith in ap (λ k. prelude.drop k (y ∷ row)) more

in_row : (n : ℕ) (row : List Record) (x : Record) → IsIn x (oldest n row) → IsIn x row
in_row n row x h = subst (IsIn x) (take-append-drop (length row - n) row) (IsIn-append_left x (oldest n row) (newest n row) h)

pub old_number : (n : ℕ) (row : List Record) → length (oldest n row) ≡ length row - n
old_number n row = omega (arith, ap length (take-append-drop (length row - n) row), length-append (oldest n row) (newest n row), length-drop (length row - n) row)

pub new_number : (n : ℕ) (row : List Record) → length (newest n row) ≤ n
new_number n row = omega (arith, length-drop (length row - n) row)

drop_one : (k : ℕ) (xs : List Record) → prelude.drop 1 (prelude.drop k xs) ≡ prelude.drop (k + 1) xs
drop_one zero xs = refl
drop_one (suc k) [] = let e : suc k + 1 ≡ suc (k + 1) = omega arith in rw e refl
drop_one (suc k) (x ∷ xs) = let e : suc k + 1 ≡ suc (k + 1) = omega arith in rw e (drop_one k xs)

-- of the newest ones, all but the first
pub newest_more : (now after row : List Record) → after ≡ prelude.drop 1 now → now ≡ newest (length now) row → 0 < length now → after ≡ newest (length after) row
newest_more now after row one rest some =
    let short : length now ≡ length row - (length row - length now) = ap length rest ∙ length-drop (length row - length now) row in
    let less : length after ≡ length now - 1 = ap length one ∙ length-drop 1 now in
    let more : length row - length now + 1 ≡ length row - length after = omega arith in
    one ∙ ap (prelude.drop 1) rest ∙ drop_one (length row - length now) row ∙ ap (λ k. prelude.drop k row) more

pub fewer_more : (n : ℕ) (now after row : List Record) → after ≡ prelude.drop 1 now → n < length now → length row - length after ≤ length row - n
fewer_more n now after row one many = omega (arith, ap length one, length-drop 1 now)

-- what is noted when as many are left as are retained
pub noted_oldest : (n : ℕ) (now row : List Record) (noted was : List ℕ) → noted ++ numbers now ≡ was ++ numbers row → now ≡ newest (length now) row →
    length row - length now ≤ length row - n → length now ≤ n → noted ≡ was ++ numbers (oldest n row)
noted_oldest n now row noted was items rest enough few =
    let same : length row - length now ≡ length row - n = omega arith in
    let is : now ≡ newest n row = rest ∙ ap (λ k. prelude.drop k row) same in
    let split : numbers row ≡ numbers (oldest n row) ++ numbers now =
    sym (ap numbers (take-append-drop (length row - n) row)) ∙ map-append (λ (r : Record). r.id) (oldest n row) (newest n row) ∙ ap (λ rs. numbers (oldest n row) ++ numbers rs) (sym is) in
    append_cancel_right noted (was ++ numbers (oldest n row)) (numbers now)
    (items ∙ ap (λ ids. was ++ ids) split ∙ sym (append_assoc was (numbers (oldest n row)) (numbers now)))

-- an old one has as many later ones as are retained
noted_is_past : (n : ℕ) (row : List Record) (x : Record) → AreRising row → IsIn x row → is_noted (numbers (oldest n row)) x ≡ leb n (later_in row x)
noted_is_past n [] x order h = absurd h
noted_is_past n (y ∷ row) x order (inl same) = let later : Record → Bool = λ s. ltb x.id s.id in let its : x.id ≡ y.id = ap (λ s. s.id) same in
    let all : count_by later row ≡ length row = count_by-all later row (λ s h. lt-ltb x.id s.id (let lt : y.id < s.id = rises y s row order.0 h in omega arith)) in
    let count : later_in (y ∷ row) x ≡ length row = omega (arith, count_by_no later y row (le-ltb x.id y.id (omega arith)), all) in
    ⊎_elim (λ (e : ltb n (length (y ∷ row)) ≡ true). let many : n < length (y ∷ row) = ltb-true n (length (y ∷ row)) e in
    ap (λ rs. is_noted (numbers rs) x) (many_old n y row many) ∙ or_left (eqb x.id y.id) (is_noted (numbers (oldest n row)) x) (eq-eqb x.id y.id its) ∙ sym (le-leb n (later_in (y ∷ row) x) (omega arith)))
    (λ (e : ltb n (length (y ∷ row)) ≡ false). let few : length (y ∷ row) ≤ n = ltb-false n (length (y ∷ row)) e in
    ap (λ rs. is_noted (numbers rs) x) (few_old n (y ∷ row) few) ∙ sym (lt-leb n (later_in (y ∷ row) x) (omega arith))) (cases_Bool (ltb n (length (y ∷ row))))
noted_is_past n (y ∷ row) x order (inr h) = let later : Record → Bool = λ s. ltb x.id s.id in let lt : y.id < x.id = rises y x row order.0 h in
    let less : count_by later row < length row = fewer later x row h (le-ltb x.id x.id (omega arith)) in
    let count : later_in (y ∷ row) x ≡ later_in row x = count_by_no later y row (le-ltb x.id y.id (omega arith)) in
    let rest : is_noted (numbers (oldest n row)) x ≡ leb n (later_in row x) = noted_is_past n row x order.1 h in
    ⊎_elim (λ (e : ltb n (length (y ∷ row)) ≡ true). let many : n < length (y ∷ row) = ltb-true n (length (y ∷ row)) e in
    ap (λ rs. is_noted (numbers rs) x) (many_old n y row many) ∙ ap (λ b. b || is_noted (numbers (oldest n row)) x) (ne_eqb x.id y.id (λ k. omega arith)) ∙ rest ∙ ap (leb n) (sym count))
    (λ (e : ltb n (length (y ∷ row)) ≡ false). let few : length (y ∷ row) ≤ n = ltb-false n (length (y ∷ row)) e in
    ap (λ rs. is_noted (numbers rs) x) (few_old n (y ∷ row) few) ∙ sym (lt-leb n (later_in (y ∷ row) x) (omega arith))) (cases_Bool (ltb n (length (y ∷ row))))

-- the others stay
pub newest_stay : (n : ℕ) (row : List Record) → AreRising row → staying (numbers (oldest n row)) row ≡ newest n row
newest_stay n [] order = let none : 0 - n ≡ 0 = omega arith in sym (ap (λ k. prelude.drop k []) none)
newest_stay n (y ∷ row) order = let ids : List ℕ = numbers (oldest n row) in
    let rest : staying ids row ≡ newest n row = newest_stay n row order.1 in
    ⊎_elim (λ (e : ltb n (length (y ∷ row)) ≡ true). let many : n < length (y ∷ row) = ltb-true n (length (y ∷ row)) e in
    ap (λ rs. staying (numbers rs) (y ∷ row)) (many_old n y row many)
    ∙ ap (λ b. cond b (y ∷ staying (y.id ∷ ids) row) (staying (y.id ∷ ids) row)) (ap not (or_left (eqb y.id y.id) (is_noted ids y) (eq-eqb y.id y.id refl)))
    ∙ filter-same (λ x. stays (y.id ∷ ids) x.id) (λ x. stays ids x.id) row
    (λ x h. ap (λ b. not (b || is_noted ids x)) (ne_eqb x.id y.id (λ k. let lt : y.id < x.id = rises y x row order.0 h in absurd (omega arith)))) ∙ rest ∙ sym (fewer_new n y row many))
    (λ (e : ltb n (length (y ∷ row)) ≡ false). let few : length (y ∷ row) ≤ n = ltb-false n (length (y ∷ row)) e in
    ap (λ rs. staying (numbers rs) (y ∷ row)) (few_old n (y ∷ row) few) ∙ filter-all (λ x. stays [] x.id) (y ∷ row) (λ x h. refl) ∙ sym (all_new n (y ∷ row) few)) (cases_Bool (ltb n (length (y ∷ row))))

count_noted : (n : ℕ) (row : List Record) → AreRising row → count_by (is_noted (numbers (oldest n row))) row ≡ length row - n
count_noted n row order = let ids : List ℕ = numbers (oldest n row) in
    omega (arith, length-filter (is_noted ids) row, length-filter_both (λ (x : Record). is_noted ids x) (λ x. stays ids x.id) (λ x. refl) row, ap length (newest_stay n row order), length-drop (length row - n) row)

-- the parts

module _ (p : Parts) (n : ℕ) (sound : IsSound (state_of p)) (g : AreGroups p.pending p.store.checkpoints p.store.savepoints) (stored : IsStored p.store) where
  abbrev row : List Record
  row = p.store.checkpoints

  abbrev gone : List ℕ
  gone = numbers (oldest n row)

  apart : AreApart (grouped p.registry p.pending p.store.checkpoints p.store.savepoints)
  apart = apart_in p sound

  abbrev pinned : List Record
  pinned = map (with_pins p.registry) p.pending

  abbrev done : List Record
  done = p.store.checkpoints ++ p.store.savepoints

  later_counted : (x : Record) → count_by (λ s. is_done_checkpoint s && ltb x.id s.id) (records_in p) ≡ later_in row x
  later_counted x = let later : Record → Bool = λ s. is_done_checkpoint s && ltb x.id s.id in
      let none_pending : count_by later p.pending ≡ 0 = count_by-none later p.pending (λ y h. ap (λ b. (b && is_checkpoint y) && ltb x.id y.id) (g.not_done y h)) in
      let no_savepoint : count_by later p.store.savepoints ≡ 0 = count_by-none later p.store.savepoints (λ y h. ap (λ b. b && ltb x.id y.id)
      (and_right y.done (is_checkpoint y) (is_savepoint-kind y (g.savepoints_done y h).1))) in let of_row : count_by later row ≡ later_in row x = count_by-same later (λ y. ltb x.id y.id) row (λ y h.
      let k = g.checkpoints_done y h in ap (λ b. b && ltb x.id y.id) (and_from y.done (is_checkpoint y) k.0 (is_checkpoint-kind y k.1))) in
      omega (arith, count_by-records_of later p.registry p.pending p.store.checkpoints p.store.savepoints (λ r. refl))

  pending_not_noted : (r : Record) → IsIn r p.pending → is_noted gone r ≡ false
  pending_not_noted r h = false_from_ne_true (is_noted gone r) (λ (k : is_noted gone r ≡ true). let c = IsIn-from_noted r (oldest n row) k in
      apart_between pinned done apart (with_pins p.registry r) c.0 (IsIn-map (with_pins p.registry) r p.pending h)
      (IsIn-append_left c.0 p.store.checkpoints p.store.savepoints (in_row n row c.0 c.1)) c.2)

  savepoint_not_old : (r : Record) → IsIn r p.store.savepoints → is_noted gone r ≡ false
  savepoint_not_old r h = false_from_ne_true (is_noted gone r) (λ (k : is_noted gone r ≡ true). let c = IsIn-from_noted r (oldest n row) k in
      apart_between p.store.checkpoints p.store.savepoints (apart_right pinned done apart) c.0 r (in_row n row c.0 c.1) h (sym c.2))

  noted_are_past : (r : Record) → IsIn r (records_in p) → is_noted gone r ≡ past n (state_of p) r
  unfolding state_of
  noted_are_past r h = let Agree : Record → Type 0 = λ y. is_noted gone y ≡ past n (state_of p) y in
      let newer : Record → Bool = λ y. leb n (count_by (λ s. is_done_checkpoint s && ltb y.id s.id) (records_in p)) in
      let waiting : (y : Record) → IsIn y p.pending → Agree (with_pins p.registry y) = λ y k. pending_not_noted y k
      ∙ sym (ap (λ b. (b && is_checkpoint y) && newer y) (g.not_done y k)) in
      let completed : (y : Record) → IsIn y p.store.checkpoints → Agree y = λ y k. let q = g.checkpoints_done y k in
      noted_is_past n row y stored.checkpoints_rise k ∙ ap (leb n) (sym (later_counted y))
      ∙ sym (ap (λ b. b && newer y) (and_from y.done (is_checkpoint y) q.0 (is_checkpoint-kind y q.1))) in
      let saved : (y : Record) → IsIn y p.store.savepoints → Agree y = λ y k. savepoint_not_old y k
      ∙ sym (ap (λ b. b && newer y) (and_right y.done (is_checkpoint y) (is_savepoint-kind y (g.savepoints_done y k).1))) in
      let of_pending : IsIn r pinned → Agree r = λ (k : IsIn r pinned). let q = IsIn-from_map (with_pins p.registry) r p.pending k in subst Agree (sym q.2) (waiting q.0 q.1) in
      let of_done : IsIn r done → Agree r = λ (k : IsIn r done). ⊎_elim (completed r) (saved r) (IsIn-append_cases r p.store.checkpoints p.store.savepoints k) in
      ⊎_elim of_pending of_done (IsIn-append_cases r pinned done (IsIn-from_in_order id_before r (grouped p.registry p.pending p.store.checkpoints p.store.savepoints) h))

  pub past_counted : dropped_by (state_of p) (past n (state_of p)) ≡ length row - n
  unfolding state_of
  past_counted = let all : count_by (past n (state_of p)) (records_in p) ≡ count_by (is_noted gone) (records_in p) =
      count_by-same (past n (state_of p)) (is_noted gone) (records_in p) (λ r h. sym (noted_are_past r h)) in
      omega (
        arith,
        all,
        count_by-records_of (is_noted gone) p.registry p.pending p.store.checkpoints p.store.savepoints (λ r. refl),
        count_by-none (is_noted gone) p.pending pending_not_noted,
        count_by-none (is_noted gone) p.store.savepoints savepoint_not_old,
        count_noted n row stored.checkpoints_rise,
      )

  pub past_dropped : (a q : Parts) (k : ℕ) → AreTied p → a ≡ without_oldest p n a → a.ended.items ≡ gone → q ≡ handed a q.ended → q.ended.items ≡ [] →
      vec_capacity q.ended ≡ vec_capacity p.ended → k ≡ length (released a.registry (without a.ended.items a.registry)) → Drops p q (past n (state_of p)) k
  past_dropped a q k tied a_is items q_is none capacity count = let spare : ℕ = a.store.spare in let ids : List ℕ = a.ended.items in
      let first : p.pending ≡ staying ids p.pending = sym (filter-all (λ r. stays ids r.id) p.pending (λ r h. ap not (ap (λ xs. is_noted xs r) items ∙ pending_not_noted r h))) in
      let second : newest n row ≡ staying ids row = sym (newest_stay n row stored.checkpoints_rise) ∙ ap (λ xs. staying xs row) (sym items) in
      let third : p.store.savepoints ≡ staying ids p.store.savepoints = sym (filter-all (λ r. stays ids r.id) p.store.savepoints (λ r h. ap not (ap (λ xs. is_noted xs r) items ∙ savepoint_not_old r h))) in
      let b : Parts = without_oldest p n a in
      let same : handed b q.ended ≡ left p ids spare q.ended = ap (λ rs. record (handed b q.ended) { pending = rs }) first
      ∙ ap (λ rs. record (left p ids spare q.ended) { store = record b.store { checkpoints = rs } }) second
      ∙ ap (λ rs. record (left p ids spare q.ended) { store = record b.store { checkpoints = staying ids row; savepoints = rs } }) third in
      let is : q ≡ left p ids spare q.ended = q_is ∙ ap (λ w. handed w q.ended) a_is ∙ same in
      drops_same p q (is_noted ids) (past n (state_of p)) k (λ r h. ap (λ xs. is_noted xs r) items ∙ noted_are_past r h)
      (drops_from p q ids spare k tied apart is none capacity (count ∙ ap (λ us. length (released us (without ids us))) (ap (λ w. w.registry) a_is)))
