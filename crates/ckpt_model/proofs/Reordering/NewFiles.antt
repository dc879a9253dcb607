-- Acknowledgements of missing subtasks, each with one new file: what one does to another.
use Rattle.ckpt_model.proofs.Names.{◌≡◌, ℕ, ◌^◌, max, true, false, ◌&&◌, ◌||◌, leb, eqb, List, [], ◌∷◌, ◌++◌, refl, sym, ap, subst, ◌∙◌, ◌⊎◌, arith, Some, None, cases_Bool, not-true, not_from_false}
use Rattle.ckpt_model.proofs.Names.{and_parts, cond-false, eqb-true, leb-false, Call, Refusal, MomentTooLarge, NameTaken, Done, Refused, ascending, IsIn, Record, uses, is_present, missing}
use Rattle.ckpt_model.proofs.Names.{has_acknowledged, is_subtask, IsIn-subtasks, State, is_pending, is_known, in_outbox, refusal, refuse_if, pending_of, was_not_given, Stepped, replaced, with_records}
use Rattle.ckpt_model.proofs.Names.{step, IsSound, is_ack_pending, is_ack_taken, Part, NewFile, ack_with, is_completing, counted-from_IsIn, common_steps}
use Rattle.ckpt_ids.specs.declared.reply.Reply.TheVariants as reply
use Rattle.ckpt_model.proofs.Records.{IsIn-from_find, IsHeld-from_present, present-from_IsHeld, held_or_named, held_still}
use Rattle.ckpt_model.proofs.Answering.Accepted.{not_refused-ack}
use Rattle.ckpt_model.proofs.Answering.RefusalRows.{row_holds, row_fails}
use Rattle.ckpt_model.proofs.Soundness.{with_ack}
use Rattle.ckpt_model.proofs.Soundness.Calls.{step_keeps}
use Rattle.ckpt_model.proofs.Reordering.ExchangeLemmas.{has_not_after, pending_of_replaced}
use Rattle.ckpt_model.proofs.Reordering.Exchange.{step_ack, left_pending, exchange}
use Rattle.ckpt_model.proofs.Answering.StepCases.{step_refused, step_accepted, step_by}
use Rattle.ckpt_model.proofs.Stepping.Acknowledged.{acknowledged_is_taken}

-- the record lacks this subtask
abbrev pub Lacks : Record → NewFile → Type 0
Lacks r n = (is_subtask r.shape n.subtask ≡ true) × (has_acknowledged r n.subtask ≡ false)

-- the record of this number is pending and lacks this subtask
pub record Awaits (m : State) (id : ℕ) (n : NewFile) : Type 0 where
  pub r : Record
  pub found : pending_of m.records id ≡ Some r
  pub lacks : Lacks r n

-- a record that lacks a subtask is not full
not_full : (r : Record) (n : NewFile) → Lacks r n → eqb (missing r) 0 ≡ false
not_full r n l = grind (arith, common_steps, IsIn-subtasks, cases_Bool, counted-from_IsIn, eqb-true, not_from_false)

-- two subtasks are awaited by one record
same_record : {m : State} {id : ℕ} {a b : NewFile} (wa : Awaits m id a) → Awaits m id b → Lacks wa.r b
same_record {m} {id} {a} {b} wa wb = grind (arith, common_steps)

-- which of them are refused

-- the number of a record was given
pub was_given : (m : State) (id : ℕ) (r : Record) → IsSound m → pending_of m.records id ≡ Some r → was_not_given m id ≡ false
was_given m id r s found = grind (arith, common_steps, IsIn-from_find (λ x. is_pending x && eqb x.id id) r m.records found, s.records.from_first r, s.records.below_next r)

-- all of them if the moment is too large
pub refused_late : (m : State) (now id : ℕ) (n : NewFile) → leb (2 ^ 62) now ≡ true → refusal m (ack_with now id n) ≡ Some MomentTooLarge
unfolding refusal
refused_late m now id n late = sym (row_holds MomentTooLarge (refuse_if (leb (2 ^ 62) now) MomentTooLarge) _ (ap (λ b. refuse_if b MomentTooLarge) (sym late)))

-- else those whose file is known
pub refused_known : (m : State) (now id : ℕ) (n : NewFile) → IsSound m → Awaits m id n → leb (2 ^ 62) now ≡ false → is_known m n.file ≡ true → refusal m (ack_with now id n) ≡ Some (NameTaken n.file)
unfolding refusal
refused_known m now id n s w early known = grind (arith, common_steps, row_fails, row_holds, was_given)

-- and no other
pub accepted_unknown : (m : State) (now id : ℕ) (n : NewFile) → IsSound m → Awaits m id n → leb (2 ^ 62) now ≡ false → is_known m n.file ≡ false → refusal m (ack_with now id n) ≡ None
accepted_unknown m now id n s w early unknown = grind (arith, common_steps, not_refused-ack, leb-false, was_given, cond-false)

-- what one does

abbrev part_of : NewFile → Part
part_of n = record { subtask = n.subtask; fresh = n.file ∷ []; reused = [] }

-- the record with it
abbrev with_new : Record → NewFile → Record
with_new r n = with_ack r n.subtask (n.file ∷ []) []

abbrev after_new : State → ℕ → Record → NewFile → State
after_new m now r n = with_records (record m { latest = max now m.latest }) (replaced m.records (with_new r n))

lacks_still : (r : Record) (a b : NewFile) → (a.subtask ≡ b.subtask → ⊥) → Lacks r b → Lacks (with_new r a) b
lacks_still r a b ne l = (l.0, has_not_after r a.subtask b.subtask (ascending ((a.file ∷ []) ++ [])) (λ e. ne (sym e)) l.1)

-- the record is still pending if it lacks another subtask
abbrev Left : State → ℕ → ℕ → Record → NewFile → Type 0
Left m now id r a = step m (ack_with now id a) ≡ (after_new m now r a, Done (reply.AckPending (missing (with_new r a))))

left : (m : State) (now id : ℕ) (r : Record) (a b : NewFile) → pending_of m.records id ≡ Some r → Lacks r b → (a.subtask ≡ b.subtask → ⊥) → refusal m (ack_with now id a) ≡ None → Left m now id r a
left m now id r a b found lb ne e =
    let w : Record = with_new r a in
    step_ack m now id (part_of a) r e found ∙ left_pending (record m { latest = max now m.latest }) w (not_full w b (lacks_still r a b ne lb))

found_after : (m : State) (now id : ℕ) (r : Record) (a : NewFile) → IsSound m → pending_of m.records id ≡ Some r → pending_of (after_new m now r a).records id ≡ Some (with_new r a)
found_after m now id r a s found =
    let there = IsIn-from_find (λ x. is_pending x && eqb x.id id) r m.records found in
    pending_of_replaced m.records id r (with_new r a) s.records.in_order found refl (not-true r.done (and_parts (is_pending r) (eqb r.id id) there.1).0)

-- no file but its own becomes known by it
present_after : (m : State) (now id : ℕ) (r : Record) (a : NewFile) (f : ℕ) → IsSound m → pending_of m.records id ≡ Some r → (f ≡ a.file → ⊥)
    → is_present (uses (after_new m now r a).records) f ≡ is_present (uses m.records) f
present_after m now id r a f s found ne =
    let after : List Record = replaced m.records (with_new r a) in
    let there : IsIn r m.records = (IsIn-from_find (λ x. is_pending x && eqb x.id id) r m.records found).0 in
    let named = held_or_named f m.records r a.subtask (a.file ∷ []) [] s.records.in_order there in
    let still = held_still f m.records r a.subtask (a.file ∷ []) [] s.records.in_order there in
    grind (arith, common_steps, named, still, present-from_IsHeld f m.records, IsHeld-from_present f after, present-from_IsHeld f after, IsHeld-from_present f m.records, cases_Bool) steps 1000000

-- a fact holds of the first of two if it holds of a refusal and of an answer that leaves the record pending
after_first : (m : State) (now id : ℕ) (a b : NewFile) (wa : Awaits m id a) → Awaits m id b → (a.subtask ≡ b.subtask → ⊥) → (P : Stepped → Type 0) → ((why : Refusal) → P (m, Refused why))
    → P (after_new m now wa.r a, Done (reply.AckPending (missing (with_new wa.r a)))) → P (step m (ack_with now id a))
after_first m now id a b wa wb ne P refused pending =
    let call : Call = ack_with now id a in
    step_by m call P (λ why _. refused why) (λ e. subst P (sym (left m now id wa.r a b wa.found (same_record wa wb) ne e) ∙ step_accepted m call e) pending)

-- the other is awaited after the first
pub awaits_after : (m : State) (now id : ℕ) (a b : NewFile) → IsSound m → Awaits m id a → Awaits m id b → (a.subtask ≡ b.subtask → ⊥) → Awaits (step m (ack_with now id a)).0 id b
awaits_after m now id a b s wa wb ne =
    let P : Stepped → Type 0 = λ x. Awaits x.0 id b in
    after_first m now id a b wa wb ne P (λ why. wb) (grind (arith, common_steps, found_after m now id wa.r a s wa.found, lacks_still wa.r a b ne, ne, same_record wa wb) steps 1000000)

-- a file that is not the first's is known after it if it was known before
pub known_after : (m : State) (now id : ℕ) (a b : NewFile) (f : ℕ) → IsSound m → Awaits m id a → Awaits m id b → (a.subtask ≡ b.subtask → ⊥) → (f ≡ a.file → ⊥)
    → is_known (step m (ack_with now id a)).0 f ≡ is_known m f
known_after m now id a b f s wa wb ne other =
    let P : Stepped → Type 0 = λ x. is_known x.0 f ≡ is_known m f in
    after_first m now id a b wa wb ne P (λ why. refl) (ap (λ p. p || in_outbox m f) (present_after m now id wa.r a f s wa.found other))

-- the first does not complete the record
pub not_completing : (m : State) (now id : ℕ) (a b : NewFile) → Awaits m id a → Awaits m id b → (a.subtask ≡ b.subtask → ⊥) → is_completing (step m (ack_with now id a)).1 ≡ false
not_completing m now id a b wa wb ne =
    let P : Stepped → Type 0 = λ x. is_completing x.1 ≡ false in
    after_first m now id a b wa wb ne P (λ why. refl) refl

taken : (m : State) (now id : ℕ) (n : NewFile) → Awaits m id n → refusal m (ack_with now id n) ≡ None → is_ack_taken (step m (ack_with now id n)).1 ≡ true
taken m now id n w e =
    ap (λ (x : Stepped). is_ack_taken x.1) (step_ack m now id (part_of n) w.r e w.found) ∙ acknowledged_is_taken (record m { latest = max now m.latest }) (with_new w.r n)

-- two, in either order

-- the same state, and the same two answers, in turn or exchanged
pub record Exchanged (m : State) (a b : Call) : Type 0 where
  pub state : (step (step m a).0 b).0 ≡ (step (step m b).0 a).0
  pub answers : (((step m b).1 ≡ (step m a).1) × ((step (step m b).0 a).1 ≡ (step (step m a).0 b).1)) ⊎ (((step m b).1 ≡ (step (step m a).0 b).1) × ((step (step m b).0 a).1 ≡ (step m a).1))

exchanged_back : {m : State} {a b : Call} → Exchanged m a b → Exchanged m b a
exchanged_back {m} {a} {b} x = grind (arith, common_steps)

-- one that is refused, before the other and after it
exchanged_refused : (m : State) (a b : Call) (why : Refusal) → refusal m a ≡ Some why → refusal (step m b).0 a ≡ Some why → Exchanged m a b
exchanged_refused m a b why first second = grind (arith, common_steps, step_refused)

-- the file of the first is known
exchanged_known : (m : State) (now id : ℕ) (a b : NewFile) → IsSound m → Awaits m id a → Awaits m id b → (a.subtask ≡ b.subtask → ⊥) → (a.file ≡ b.file → ⊥) → leb (2 ^ 62) now ≡ false
    → is_known m a.file ≡ true → Exchanged m (ack_with now id a) (ack_with now id b)
exchanged_known m now id a b s wa wb ne other early known =
    let B : Call = ack_with now id b in
    let back : b.subtask ≡ a.subtask → ⊥ = λ e. ne (sym e) in
    exchanged_refused m (ack_with now id a) B (NameTaken a.file) (refused_known m now id a s wa early known)
    (refused_known (step m B).0 now id a (step_keeps m B tt s) (awaits_after m now id b a s wb wa back) early (known_after m now id b a a.file s wb wa back other ∙ known))

-- neither file is known
exchanged_unknown : (m : State) (now id : ℕ) (a b : NewFile) → IsSound m → Awaits m id a → Awaits m id b → (a.subtask ≡ b.subtask → ⊥) → (a.file ≡ b.file → ⊥) → leb (2 ^ 62) now ≡ false
    → is_known m a.file ≡ false → is_known m b.file ≡ false → Exchanged m (ack_with now id a) (ack_with now id b)
exchanged_unknown m now id a b s wa wb ne other early ka kb =
    let A : Call = ack_with now id a in
    let ea : refusal m A ≡ None = accepted_unknown m now id a s wa early ka in
    let pending : is_ack_pending (step m A).1 ≡ true = ap (λ (x : Stepped). is_ack_pending x.1) (left m now id wa.r a b wa.found (same_record wa wb) ne ea) in
    let wb1 : Awaits (step m A).0 id b = awaits_after m now id a b s wa wb ne in
    let kb1 = known_after m now id a b b.file s wa wb ne (λ e. other (sym e)) ∙ kb in
    let both = exchange m now id (part_of a) (part_of b) s ne (λ f h k. k) pending (taken (step m A).0 now id b wb1 (accepted_unknown (step m A).0 now id b (step_keeps m A tt s) wb1 early kb1)) in
    grind (arith, common_steps)

pub exchanged_new : (m : State) (now id : ℕ) (a b : NewFile) → IsSound m → Awaits m id a → Awaits m id b → (a.subtask ≡ b.subtask → ⊥) → (a.file ≡ b.file → ⊥)
    → Exchanged m (ack_with now id a) (ack_with now id b)
exchanged_new m now id a b s wa wb ne other =
    let late = λ (e : leb (2 ^ 62) now ≡ true).
    exchanged_refused m (ack_with now id a) (ack_with now id b) MomentTooLarge (refused_late m now id a e) (refused_late (step m (ack_with now id b)).0 now id a e) in
    grind (arith, common_steps, exchanged_known, exchanged_back, exchanged_unknown, cases_Bool) steps 1000000
