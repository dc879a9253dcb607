-- The uses of sound records are in strict order, and what a change of the records does to them.
use Rattle.ckpt_core.proofs.Names.{◌≡◌, ℕ, ◌<◌, Bool, true, ◌&&◌, ◌||◌, cond, ltb, eqb, List, [], ◌∷◌, ◌++◌, refl, sym, ap, ◌∙◌, inl, inr, ⊎_elim, arith, filter, filter-append, cond_both, lt-ltb}
use Rattle.ckpt_core.proofs.Names.{ltb-true, or_left, Acked, acknowledges_before, AreInSubtaskOrder, IsAscendingSet, IsIn, IsInOrder, in_order_once, Record, Use, Holder, Subtask, Pin, use_before}
use Rattle.ckpt_core.proofs.Names.{holder_before, same_holder, uses, uses_of, IsIn-append_cases, IsIn-from_map, IsIn-from_flat_map, ComesBefore-at, IsInOrder-append, IsInOrder-map, same_from_members}
use Rattle.ckpt_core.proofs.Names.{IsInOrder-in_order_once, IsIn-in_order_once, IsIn-from_in_order_once, uses_in_order, id_before, IsRecord, common_steps, triples, uses_of_acks}

-- an earlier record's uses come first
pub earlier_record : (u v : Use) → u.id < v.id → use_before u v ≡ true
earlier_record u v h = or_left (ltb u.id v.id) (eqb u.id v.id && (holder_before u.holder v.holder || (same_holder u.holder v.holder && ltb u.file v.file))) (lt-ltb u.id v.id h)

earlier_holder : (u v : Use) → u.id ≡ v.id → holder_before u.holder v.holder ≡ true → use_before u v ≡ true
earlier_holder u v e h = grind (arith, common_steps)

earlier_file : (id : ℕ) (h : Holder) (f g : ℕ) → ltb f g ≡ true → use_before (record { id = id; holder = h; file = f }) (record { id = id; holder = h; file = g }) ≡ true
earlier_file id h f g lt = grind (arith, common_steps)

-- the uses that one holder has of these files
pub holds_in_order : (id : ℕ) (h : Holder) (files : List ℕ) → IsAscendingSet files → IsInOrder use_before (triples id h files)
holds_in_order id h files a = IsInOrder-map ltb use_before (λ f. record { id = id; holder = h; file = f }) files (λ f g lt. earlier_file id h f g lt) a

pub from_holds : (id : ℕ) (h : Holder) (files : List ℕ) (u : Use) → IsIn u (triples id h files) → (u.id ≡ id) × (u.holder ≡ h) × IsIn u.file files
from_holds id h files u k = grind (arith, common_steps, IsIn-from_map)

-- a use by an acknowledgement
pub id_of_acks : (id : ℕ) (acks : List Acked) (u : Use) → IsIn u (uses_of_acks id acks) → (a : Acked) × IsIn a acks × (u.id ≡ id) × (u.holder ≡ Subtask a.subtask)
id_of_acks id acks u h = grind (arith, common_steps, IsIn-from_flat_map, from_holds, triples)

acks_in_order : (id : ℕ) (acks : List Acked) → AreInSubtaskOrder acks → ((a : Acked) → IsIn a acks → IsAscendingSet a.files) → IsInOrder use_before (uses_of_acks id acks)
acks_in_order id [] order files = tt
acks_in_order id (a ∷ acks) order files =
    IsInOrder-append use_before (triples id (Subtask a.subtask) a.files) (uses_of_acks id acks) (holds_in_order id (Subtask a.subtask) a.files (files a (inl refl)))
    (acks_in_order id acks order.1 (λ b h. files b (inr h))) (λ u v h k. let p = from_holds id (Subtask a.subtask) a.files u h in let q = id_of_acks id acks v k in
    earlier_holder u v (p.0 ∙ sym q.2) (ap (λ w. holder_before w v.holder) p.1 ∙ ap (holder_before (Subtask a.subtask)) q.3 ∙ ComesBefore-at acknowledges_before a q.0 acks order.0 q.1))

pub use_of_record : (r : Record) (u : Use) → IsIn u (uses_of r) → u.id ≡ r.id
use_of_record r u h = ⊎_elim (λ k. (id_of_acks r.id r.acks u k).2) (λ k. (from_holds r.id Pin r.pins u k).0) (IsIn-append_cases u (uses_of_acks r.id r.acks) (triples r.id Pin r.pins) h)

-- whether the record lacks acknowledgements or not
pub record_uses_in_order : (r : Record) → AreInSubtaskOrder r.acks → ((a : Acked) → IsIn a r.acks → IsAscendingSet a.files) → IsAscendingSet r.pins → IsInOrder use_before (uses_of r)
record_uses_in_order r order files pins = IsInOrder-append use_before (uses_of_acks r.id r.acks) (triples r.id Pin r.pins) (acks_in_order r.id r.acks order files)
    (holds_in_order r.id Pin r.pins pins) (λ u v h k. let q = id_of_acks r.id r.acks u h in let p = from_holds r.id Pin r.pins v k in
    earlier_holder u v (q.2 ∙ sym p.0) (ap (λ w. holder_before w v.holder) q.3 ∙ ap (holder_before (Subtask q.0.subtask)) p.1))

pub record_in_order : (r : Record) → IsRecord r → IsInOrder use_before (uses_of r)
record_in_order r sound = record_uses_in_order r sound.acks_in_order sound.files sound.pins

-- the uses of records in ascending order of numbers are in strict order if those of each are
pub all_uses_in_order : (rs : List Record) → IsInOrder id_before rs → ((r : Record) → IsIn r rs → IsInOrder use_before (uses_of r)) → IsInOrder use_before (uses rs)
all_uses_in_order [] order each = tt
all_uses_in_order (r ∷ rs) order each =
    IsInOrder-append use_before (uses_of r) (uses rs) (each r (inl refl)) (all_uses_in_order rs order.1 (λ s h. each s (inr h))) (λ u v h k. let q = IsIn-from_flat_map uses_of v rs k in
    earlier_record u v (omega (arith, ltb-true r.id q.0.id (ComesBefore-at id_before r q.0 rs order.0 q.1), use_of_record q.0 v q.2, use_of_record r u h)))

pub uses-in_order : (rs : List Record) → IsInOrder id_before rs → ((r : Record) → IsIn r rs → IsRecord r) → IsInOrder use_before (uses rs)
uses-in_order rs order each = all_uses_in_order rs order (λ r h. record_in_order r (each r h))

-- a list that is in order already stays as it is
pub in_order_once-itself : (us : List Use) → IsInOrder use_before us → in_order_once use_before us ≡ us
in_order_once-itself us order = grind (arith, common_steps, IsIn-from_in_order_once, IsIn-in_order_once, IsInOrder-in_order_once, same_from_members, uses_in_order)

-- without the records of some numbers, without their uses

kept_or_none : (keep : ℕ → Bool) (r : Record) (us : List Use) → ((u : Use) → IsIn u us → u.id ≡ r.id) → filter (λ u. keep u.id) us ≡ cond (keep r.id) us []
kept_or_none keep r [] same = grind (arith, common_steps)
kept_or_none keep r (u ∷ us) same = grind (arith, common_steps, same u (inl refl), kept_or_none keep r us (λ v h. same v (inr h)))

pub uses-filter : (keep : ℕ → Bool) (rs : List Record) → uses (filter (λ r. keep r.id) rs) ≡ filter (λ u. keep u.id) (uses rs)
uses-filter keep [] = refl
uses-filter keep (r ∷ rs) = rw (filter-append (λ u. keep u.id) (uses_of r) (uses rs), kept_or_none keep r (uses_of r) (use_of_record r), ← uses-filter keep rs)
    (cond_both (keep r.id) (r ∷ filter (λ s. keep s.id) rs) (filter (λ s. keep s.id) rs) (λ ws. uses ws ≡ cond (keep r.id) (uses_of r) [] ++ uses (filter (λ s. keep s.id) rs)) (λ e. rw e refl)
    (λ e. rw e refl))
