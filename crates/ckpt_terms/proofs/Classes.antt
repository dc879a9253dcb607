-- Each number is in one class, garbage stays so, and what may be deleted is used no more.
use Rattle.ckpt_terms.proofs.Imports.{◌≡◌, ℕ, ◌+◌, ◌<◌, ◌≤◌, Bool, true, false, not, ◌&&◌, ltb, leb, List, ◌++◌, inl, inr, ⊎_elim, arith, cases_Bool, both_ways, not-true, and_parts, and_from}
use Rattle.ckpt_terms.proofs.Imports.{or_cases, or_parts, not_from_false, ltb-true, ltb-false, leb-true, leb-false, one_if, times, IsIn, uses, is_present, one_if-true, one_if-false}
use Rattle.ckpt_terms.proofs.Imports.{times-append, numbers_in_order, IsIn-from_test, not_in-from_test, AreDistinct-from_order, is_known, in_outbox, outbox_of, unused-from_absent, times_none}
use Rattle.ckpt_terms.proofs.Imports.{times_once, FencedCall, Fenced, fenced_replay, is_unspent, is_garbage, may_be_deleted, AreFencedCalls, IsFenced, GarbageForGood, DeletionsAreSafe}
use Rattle.ckpt_terms.proofs.{Known.known-from_outbox, Stepping.IsOpen, Stepping.IsLater, Fences.replay_later}

-- garbage, by its three parts
pub garbage_from : (m : Fenced) (f : ℕ) → (IsOpen m f → ⊥) → is_known m.core f ≡ false → is_garbage m f ≡ true
garbage_from m f closed unknown =
    let below : ltb f m.next_name ≡ true =
    ⊎_elim (λ (e : ltb f m.next_name ≡ true). e) (λ (e : ltb f m.next_name ≡ false). absurd (closed (inr (ltb-false f m.next_name e)))) (cases_Bool (ltb f m.next_name)) in
    let spent : is_unspent m f ≡ false =
    ⊎_elim (λ (e : is_unspent m f ≡ true). absurd (closed (inl (IsIn-from_test f m.unspent e)))) (λ (e : is_unspent m f ≡ false). e) (cases_Bool (is_unspent m f)) in
    and_from (ltb f m.next_name && not (is_unspent m f)) (not (is_known m.core f)) (and_from (ltb f m.next_name) (not (is_unspent m f)) below (not_from_false (is_unspent m f) spent))
    (not_from_false (is_known m.core f) unknown)

garbage_parts : (m : Fenced) (f : ℕ) → is_garbage m f ≡ true → (IsOpen m f → ⊥) × (is_known m.core f ≡ false)
garbage_parts m f h =
    let a = and_parts (ltb f m.next_name && not (is_unspent m f)) (not (is_known m.core f)) h in
    let b = and_parts (ltb f m.next_name) (not (is_unspent m f)) a.0 in
    let below : f < m.next_name = ltb-true f m.next_name b.0 in
    (λ o. ⊎_elim (λ (k : IsIn f m.unspent). not_in-from_test f m.unspent (not-true (is_unspent m f) b.1) k) (λ (k : m.next_name ≤ f). absurd (omega arith)) o, not-true (is_known m.core f) a.1)

-- a known name is not open
pub known_closed : (m : Fenced) (f : ℕ) → IsFenced m → is_known m.core f ≡ true → IsOpen m f → ⊥
known_closed m f i h o = ⊎_elim (λ (k : IsIn f m.unspent). both_ways (is_known m.core f) (i.apart f k) h) (λ (k : m.next_name ≤ f). let b : f < m.next_name = i.known f h in absurd (omega arith)) o

-- garbage stays garbage
garbage_later : (m n : Fenced) (f : ℕ) → IsLater m n → is_garbage m f ≡ true → is_garbage n f ≡ true
garbage_later m n f l h =
    let g = garbage_parts m f h in
    garbage_from n f (λ o. g.0 (l.still_open f o))
    (⊎_elim (λ (e : is_known n.core f ≡ true). ⊎_elim (λ (k : is_known m.core f ≡ true). absurd (both_ways (is_known m.core f) g.1 k)) (λ (o : IsOpen m f). absurd (g.0 o)) (l.known f e))
    (λ (e : is_known n.core f ≡ false). e) (cases_Bool (is_known n.core f)))

pub garbage_for_good : (m : Fenced) (calls : List FencedCall) → IsFenced m → AreFencedCalls calls → GarbageForGood m calls
garbage_for_good m calls i b f h = garbage_later m (fenced_replay m calls) f (replay_later m calls b i) h

-- a file that may be deleted is in no use, and its name is not open
deletable_parts : (m : Fenced) (f : ℕ) → IsFenced m → may_be_deleted m f ≡ true → (IsOpen m f → ⊥) × (is_present (uses m.core.records) f ≡ false)
deletable_parts m f i h =
    ⊎_elim
    (λ (k : is_garbage m f ≡ true). let g = garbage_parts m f k in (g.0, (or_parts (is_present (uses m.core.records) f) (in_outbox m.core f) g.1).0))
    (λ (k : in_outbox m.core f ≡ true). let out : IsIn f (m.core.waiting ++ m.core.taken) = IsIn-from_test f (m.core.waiting ++ m.core.taken) k in
    (known_closed m f i (known-from_outbox m.core f out), (outbox_of i.core).unused f out))
    (or_cases (is_garbage m f) (in_outbox m.core f) h)

pub deletions_are_safe : (m : Fenced) (calls : List FencedCall) → IsFenced m → AreFencedCalls calls → DeletionsAreSafe m calls
deletions_are_safe m calls i b f h =
    let n : Fenced = fenced_replay m calls in
    let d = deletable_parts m f i h in
    let l : IsLater m n = replay_later m calls b i in
    let absent : is_present (uses n.core.records) f ≡ false =
    ⊎_elim (λ (e : is_present (uses n.core.records) f ≡ true).
    ⊎_elim (λ (k : is_present (uses m.core.records) f ≡ true). absurd (both_ways (is_present (uses m.core.records) f) d.1 k)) (λ (o : IsOpen m f). absurd (d.0 o)) (l.present f e))
    (λ (e : is_present (uses n.core.records) f ≡ false). e) (cases_Bool (is_present (uses n.core.records) f)) in
    unused-from_absent n.core f absent

-- a known file is in use, waits or was fetched, once
known_once : (m : Fenced) (f : ℕ) → IsFenced m → is_known m.core f ≡ true → one_if (is_present (uses m.core.records) f) + times f (m.core.waiting ++ m.core.taken) ≡ 1
known_once m f i h =
    let out : List ℕ = m.core.waiting ++ m.core.taken in
    let b = outbox_of i.core in
    let p : Bool = is_present (uses m.core.records) f in
    let Goal : Type 0 = one_if p + times f out ≡ 1 in
    ⊎_elim
    (λ (e : p ≡ true).
    let one : one_if p ≡ 1 = one_if-true p e in
    let none : times f out ≡ 0 = times_none f out (λ k. both_ways p (b.unused f k) e) in
    let goal : Goal = omega arith in
    goal)
    (λ (e : p ≡ false).
    let zero_ : one_if p ≡ 0 = one_if-false p e in
    let there : IsIn f out = ⊎_elim (λ (k : p ≡ true). absurd (both_ways p e k)) (λ (k : in_outbox m.core f ≡ true). IsIn-from_test f out k) (or_cases p (in_outbox m.core f) h) in
    let once : times f out ≡ 1 = times_once f out b.apart there in
    let goal : Goal = omega arith in
    goal)
    (cases_Bool p)

-- an unknown one is in none of the three
unknown_never : (m : Fenced) (f : ℕ) → is_known m.core f ≡ false → one_if (is_present (uses m.core.records) f) + times f (m.core.waiting ++ m.core.taken) ≡ 0
unknown_never m f h =
    let out : List ℕ = m.core.waiting ++ m.core.taken in
    let p : Bool = is_present (uses m.core.records) f in
    let parts = or_parts p (in_outbox m.core f) h in
    let zero_ : one_if p ≡ 0 = one_if-false p parts.0 in
    let none : times f out ≡ 0 = times_none f out (not_in-from_test f out parts.1) in
    omega arith

-- the six classes
pub classes : (m : Fenced) (f : ℕ) → IsFenced m
    → one_if (leb m.next_name f) + times f m.unspent + one_if (is_present (uses m.core.records) f) + times f m.core.waiting + times f m.core.taken + one_if (is_garbage m f) ≡ 1
classes m f i =
    let out : List ℕ = m.core.waiting ++ m.core.taken in
    let p : Bool = is_present (uses m.core.records) f in
    let g : Bool = is_garbage m f in
    let both : times f out ≡ times f m.core.waiting + times f m.core.taken = times-append f m.core.waiting m.core.taken in
    let Goal : Type 0 = one_if (leb m.next_name f) + times f m.unspent + one_if p + times f m.core.waiting + times f m.core.taken + one_if g ≡ 1 in
    let garbage_not : (is_garbage m f ≡ true → ⊥) → one_if g ≡ 0 =
    λ (no : is_garbage m f ≡ true → ⊥). one_if-false g (⊎_elim (λ (e : g ≡ true). absurd (no e)) (λ (e : g ≡ false). e) (cases_Bool g)) in
    let held : IsIn f m.unspent → times f m.unspent ≡ 1 = λ (h : IsIn f m.unspent). times_once f m.unspent (AreDistinct-from_order numbers_in_order m.unspent i.ascending) h in
    let new : leb m.next_name f ≡ true → Goal = λ (e : leb m.next_name f ≡ true).
    let from : m.next_name ≤ f = leb-true m.next_name f e in
    let one : one_if (leb m.next_name f) ≡ 1 = one_if-true (leb m.next_name f) e in
    let none : times f m.unspent ≡ 0 = times_none f m.unspent (λ k. let b : f < m.next_name = i.reserved f k in absurd (omega arith)) in
    let unknown : is_known m.core f ≡ false =
    ⊎_elim (λ (k : is_known m.core f ≡ true). absurd (known_closed m f i k (inr from))) (λ (k : is_known m.core f ≡ false). k) (cases_Bool (is_known m.core f)) in
    let rest : one_if p + times f out ≡ 0 = unknown_never m f unknown in
    let last : one_if g ≡ 0 = garbage_not (λ k. (garbage_parts m f k).0 (inr from)) in
    omega arith in
    let known : leb m.next_name f ≡ false → is_known m.core f ≡ true → Goal = λ (e : leb m.next_name f ≡ false) (k : is_known m.core f ≡ true).
    let zero_ : one_if (leb m.next_name f) ≡ 0 = one_if-false (leb m.next_name f) e in
    let none : times f m.unspent ≡ 0 = times_none f m.unspent (λ h. known_closed m f i k (inl h)) in
    let rest : one_if p + times f out ≡ 1 = known_once m f i k in
    let last : one_if g ≡ 0 = garbage_not (λ h. both_ways (is_known m.core f) (garbage_parts m f h).1 k) in
    omega arith in
    let unspent : leb m.next_name f ≡ false → IsIn f m.unspent → Goal = λ (e : leb m.next_name f ≡ false) (h : IsIn f m.unspent).
    let zero_ : one_if (leb m.next_name f) ≡ 0 = one_if-false (leb m.next_name f) e in
    let one : times f m.unspent ≡ 1 = held h in
    let rest : one_if p + times f out ≡ 0 = unknown_never m f (i.apart f h) in
    let last : one_if g ≡ 0 = garbage_not (λ k. (garbage_parts m f k).0 (inl h)) in
    omega arith in
    let left : leb m.next_name f ≡ false → is_known m.core f ≡ false → (IsIn f m.unspent → ⊥) → Goal = λ (e : leb m.next_name f ≡ false) (k : is_known m.core f ≡ false) (h : IsIn f m.unspent → ⊥).
    let zero_ : one_if (leb m.next_name f) ≡ 0 = one_if-false (leb m.next_name f) e in
    let below : f < m.next_name = leb-false m.next_name f e in
    let none : times f m.unspent ≡ 0 = times_none f m.unspent h in
    let rest : one_if p + times f out ≡ 0 = unknown_never m f k in
    let closed : IsOpen m f → ⊥ = λ (o : IsOpen m f). ⊎_elim h (λ (l : m.next_name ≤ f). absurd (omega arith)) o in
    let last : one_if g ≡ 1 = one_if-true g (garbage_from m f closed k) in
    omega arith in
    ⊎_elim
    new
    (λ (e : leb m.next_name f ≡ false).
    ⊎_elim
    (known e)
    (λ (k : is_known m.core f ≡ false).
    ⊎_elim
    (λ (u : is_unspent m f ≡ true). unspent e (IsIn-from_test f m.unspent u))
    (λ (u : is_unspent m f ≡ false). left e k (not_in-from_test f m.unspent u))
    (cases_Bool (is_unspent m f)))
    (cases_Bool (is_known m.core f)))
    (cases_Bool (leb m.next_name f))
