-- The uses of a record that is newer than all that have some, added one acknowledgement after the other.
use Rattle.ckpt_core.proofs.Names.{triples, ◌≡◌, ℕ, ◌<◌, ◌≤◌, true, false, List, [], ◌∷◌, ◌++◌, take, refl, sym, ap, subst, ◌∙◌, inl, inr, ⊎_elim, arith, append-nil, append_assoc, take-append-drop}
use Rattle.ckpt_core.proofs.Names.{flat_map-append, both_ways, Acked, AreInSubtaskOrder, acknowledges_before, IsAscendingSet, IsIn, ComesBefore, IsInOrder, in_order_once, Record, Use, Subtask, Pin}
use Rattle.ckpt_core.proofs.Names.{count, use_before, subtasks_in_order, ComesBefore-at, IsIn-append_left, IsIn-append_cases, IsInOrder-append, HasNoUse, uses_of_acks, uses_held, common_steps}
use Rattle.std.proofs.Common.{drop}
use Rattle.ckpt_ids.specs.Acknowledged.{is_before}
use Rattle.ckpt_core.proofs.Using.Order.{earlier_record, id_of_acks, from_holds, in_order_once-itself, record_uses_in_order}
use Rattle.ckpt_ids.specs.declared.numbers.Kind.TheVariants as kind

-- an acknowledgement that came before is of another subtask
pub before_in : (before : List Acked) (a b : Acked) → AreInSubtaskOrder (before ++ a ∷ []) → IsIn b before → acknowledges_before b a ≡ true
before_in [] a b order h = absurd h
before_in (x ∷ before) a b order (inl e) = rw e (ComesBefore-at acknowledges_before x a (before ++ a ∷ []) order.0 (last before))
  where
    last : (xs : List Acked) → IsIn a (xs ++ a ∷ [])
    last [] = inl refl
    last (y ∷ ys) = inr (last ys)
before_in (x ∷ before) a b order (inr h) = before_in before a b order.1 h

-- the subtask has no use yet
pub subtask_unused : (old : List Use) (id : ℕ) (before : List Acked) (a : Acked) → ((u : Use) → IsIn u old → u.id < id) → AreInSubtaskOrder (before ++ a ∷ []) →
    HasNoUse (old ++ uses_of_acks id before) id (Subtask a.subtask)
subtask_unused old id before a newest order = λ u h same holder. ⊎_elim (λ (k : IsIn u old). absurd (omega (arith, newest u k, same))) (λ (k : IsIn u (uses_of_acks id before)).
    let q = id_of_acks id before u k in let b : Acked = q.0 in let eq : Subtask b.subtask ≡ Subtask a.subtask = sym q.3 ∙ holder in let its : b.subtask ≡ a.subtask = cc in
    both_ways (is_before a.subtask a.subtask) (subtasks_in_order.irreflexive a.subtask) (ap (λ s. is_before s a.subtask) (sym its) ∙ before_in before a b order q.1))
    (IsIn-append_cases u old (uses_of_acks id before) h)

-- and the record pins nothing yet
pub pins_unused : (old : List Use) (id : ℕ) (acks : List Acked) → ((u : Use) → IsIn u old → u.id < id) → HasNoUse (old ++ uses_of_acks id acks) id Pin
pins_unused old id acks newest = λ u h same holder. ⊎_elim (λ k. absurd (omega (arith, newest u k, same))) (λ k. let q = id_of_acks id acks u k in
    let eq : Subtask q.0.subtask ≡ Pin = sym q.3 ∙ holder in absurd (cc)) (IsIn-append_cases u old (uses_of_acks id acks) h)

-- with the pins, all are in order already
pub whole_in_order : (old : List Use) (id : ℕ) (acks : List Acked) (pins : List ℕ) → IsInOrder use_before old → ((u : Use) → IsIn u old → u.id < id) → AreInSubtaskOrder acks →
    ((a : Acked) → IsIn a acks → IsAscendingSet a.files) → IsAscendingSet pins → IsInOrder use_before (old ++ uses_held id acks pins)
whole_in_order old id acks pins order newest acks_order files set = let r : Record = record { id = id; kind = kind.Checkpoint; done = false; shape = []; started = 0; acks = acks; pins = pins } in
    IsInOrder-append use_before old (uses_held id acks pins) order (record_uses_in_order r acks_order files set) (λ u v h k.
    let its : v.id ≡ id = ⊎_elim (λ i. (id_of_acks id acks v i).2) (λ i. (from_holds id Pin pins v i).0) (IsIn-append_cases v (uses_of_acks id acks) (triples id Pin pins) k) in
    earlier_record u v (omega (arith, newest u h, its)))

-- one acknowledgement more
pub ack_registered : (old : List Use) (id : ℕ) (before : List Acked) (a : Acked) → IsInOrder use_before old → ((u : Use) → IsIn u old → u.id < id) → AreInSubtaskOrder (before ++ a ∷ []) →
    ((b : Acked) → IsIn b (before ++ a ∷ []) → IsAscendingSet b.files) → in_order_once use_before ((old ++ uses_of_acks id before) ++ triples id (Subtask a.subtask) a.files)
    ≡ old ++ uses_of_acks id (before ++ a ∷ [])
ack_registered old id before a order newest acks_order files =
    let its : List Use = triples id (Subtask a.subtask) a.files in let of : Acked → List Use = λ b. triples id (Subtask b.subtask) b.files in
    let more : uses_of_acks id (before ++ a ∷ []) ≡ uses_of_acks id before ++ its = flat_map-append of before (a ∷ []) ∙ ap (λ us. uses_of_acks id before ++ us) (append-nil its) in
    let bare : uses_held id (before ++ a ∷ []) [] ≡ uses_of_acks id (before ++ a ∷ []) = append-nil (uses_of_acks id (before ++ a ∷ [])) in
    ap (in_order_once use_before) (append_assoc old (uses_of_acks id before) its ∙ ap (λ us. old ++ us) (sym more)) ∙ in_order_once-itself (old ++ uses_of_acks id (before ++ a ∷ []))
    (rw bare at (whole_in_order old id (before ++ a ∷ []) [] order newest acks_order files tt))

-- the pins behind them
pub pins_registered : (old : List Use) (id : ℕ) (acks : List Acked) (pins : List ℕ) → IsInOrder use_before old → ((u : Use) → IsIn u old → u.id < id) → AreInSubtaskOrder acks →
    ((a : Acked) → IsIn a acks → IsAscendingSet a.files) → IsAscendingSet pins → in_order_once use_before ((old ++ uses_of_acks id acks) ++ triples id Pin pins) ≡ old ++ uses_held id acks pins
pins_registered old id acks pins order newest acks_order files set =
    rw (append_assoc old (uses_of_acks id acks) (triples id Pin pins), in_order_once-itself (old ++ uses_held id acks pins) (whole_in_order old id acks pins order newest acks_order files set))

-- what is counted so far is at most what is counted in the end
pub count_so_far : (f : ℕ) (old before more pins : List Use) → count (old ++ before) f ≤ count (old ++ ((before ++ more) ++ pins)) f
count_so_far f old before more pins = grind (arith, common_steps)

-- a prefix of acknowledgements in order
pub front_in_order : (xs ys : List Acked) → AreInSubtaskOrder (xs ++ ys) → AreInSubtaskOrder xs
front_in_order [] ys order = tt
front_in_order (x ∷ xs) ys order = (front xs ys order.0, front_in_order xs ys order.1)
  where
    front : (us vs : List Acked) → ComesBefore acknowledges_before x (us ++ vs) → ComesBefore acknowledges_before x us
    front [] vs c = tt
    front (u ∷ us) vs c = (c.0, front us vs c.1)

pub count_front : (f : ℕ) (old : List Use) (id : ℕ) (acks : List Acked) (i : ℕ) (pins : List ℕ) → count (old ++ uses_of_acks id (take i acks)) f ≤ count (old ++ uses_held id acks pins) f
count_front f old id acks i pins = let of : Acked → List Use = λ b. triples id (Subtask b.subtask) b.files in
    let split : uses_of_acks id acks ≡ uses_of_acks id (take i acks) ++ uses_of_acks id (drop i acks) = ap (uses_of_acks id) (sym (take-append-drop i acks))
    ∙ flat_map-append of (take i acks) (drop i acks) in
    omega (arith, ap (λ us. count (old ++ (us ++ triples id Pin pins)) f) split, count_so_far f old (uses_of_acks id (take i acks)) (uses_of_acks id (drop i acks)) (triples id Pin pins))

-- one of the prefix is one of all
pub in_front : (b : Acked) (acks : List Acked) (i : ℕ) → IsIn b (take i acks) → IsIn b acks
in_front b acks i h = rw (take-append-drop i acks) at (IsIn-append_left b (take i acks) (drop i acks) h)

pub take_in_order : (acks : List Acked) (i : ℕ) → AreInSubtaskOrder acks → AreInSubtaskOrder (take i acks)
take_in_order acks i order = front_in_order (take i acks) (drop i acks) (subst AreInSubtaskOrder (sym (take-append-drop i acks)) order)
