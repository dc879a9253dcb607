-- The law of exchange: two acknowledgements of one record go in either order.
use Rattle.ckpt_model.proofs.Names.{◌≡◌, ℕ, ◌+◌, max, true, false, not, ◌&&◌, ◌||◌, eqb, List, ◌++◌, refl, ap, subst, ◌∙◌, arith, Option, Some, None, both_ways, not-true, not-false, and_parts}
use Rattle.ckpt_model.proofs.Names.{or_parts, or_from, Call, Done, IsIn, ascending, Record, uses, is_present, missing, IsIn-append_left, list_any-none, find-none, State, is_pending, is_known}
use Rattle.ckpt_model.proofs.Names.{in_outbox, refusal, pending_of, Stepped, replaced, with_records, completed_with, acknowledged_in, ack, effect, step, IsSound, is_ack_pending, is_ack_taken}
use Rattle.ckpt_model.proofs.Names.{ShareNone, Part, ack_of, Exchange, common_steps}
use Rattle.ckpt_ids.specs.declared.reply.Reply.TheVariants as reply
use Rattle.ckpt_model.proofs.Records.{IsIn-from_find, fails-from_find, IsHeld, IsHeld-from_present, present-from_IsHeld, not_held, absent-from_not_held, held_or_named, held_named, held_still}
use Rattle.ckpt_model.proofs.Answering.StepCases.{ack_step, not_refused-from_answer, step_by}
use Rattle.ckpt_model.proofs.Answering.Accepted.{IsAcceptedAck, accepted_ack, not_refused-ack}
use Rattle.ckpt_model.proofs.Soundness.{with_ack}
use Rattle.ckpt_model.proofs.Reordering.ExchangeLemmas.{acks_commute, has_not_before, has_not_after, missing_one_less, replaced_twice, pending_of_replaced}

-- what an accepted acknowledgement of a pending record does
pub step_ack : (m : State) (now id : ℕ) (p : Part) (r : Record) → refusal m (ack_of now id p) ≡ None → pending_of m.records id ≡ Some r
    → step m (ack_of now id p) ≡ acknowledged_in (record m { latest = max now m.latest }) (with_ack r p.subtask p.fresh p.reused)
unfolding ack
step_ack m now id p r = ack_step m now id p.subtask p.fresh p.reused (Some r)

-- one that leaves the record pending
pub left_pending : (n : State) (w : Record) → eqb (missing w) 0 ≡ false → acknowledged_in n w ≡ (with_records n (replaced n.records w), Done (reply.AckPending (missing w)))
unfolding acknowledged_in
left_pending n w lacks = grind (arith, common_steps)

-- what follows for the call from its answer

-- a record for which the answer is AckPending still lacks an acknowledgement
still_lacks : (n : State) (w : Record) → is_ack_pending (acknowledged_in n w).1 ≡ true → eqb (missing w) 0 ≡ false
unfolding acknowledged_in completed_with
still_lacks n w = grind (arith, common_steps)

-- only for a pending record is the answer AckPending
was_pending : (n : State) (p : Part) (o : Option Record) → is_ack_pending (ack n o p.subtask p.fresh p.reused).1 ≡ true
    → (r : Record) × (o ≡ Some r) × (eqb (missing (with_ack r p.subtask p.fresh p.reused)) 0 ≡ false)
unfolding ack
was_pending n p o h3 = grind (arith, common_steps, both_ways, still_lacks, with_ack)

-- a call that is answered AckPending found its record pending, and left it so
pending_found : (m : State) (now id : ℕ) (p : Part) → is_ack_pending (step m (ack_of now id p)).1 ≡ true
    → (r : Record) × (pending_of m.records id ≡ Some r) × (eqb (missing (with_ack r p.subtask p.fresh p.reused)) 0 ≡ false)
unfolding effect
pending_found m now id p =
    step_by m (ack_of now id p) (λ x. is_ack_pending x.1 ≡ true → (r : Record) × (pending_of m.records id ≡ Some r) × (eqb (missing (with_ack r p.subtask p.fresh p.reused)) 0 ≡ false))
    (λ why _ h. absurd (both_ways false refl h)) (λ _. was_pending _ p _)

-- the record that was replaced is replaced again, at the same moment
settles : (n : State) (now : ℕ) (w v : Record) → max now n.latest ≡ n.latest → w.id ≡ v.id
    → acknowledged_in (record (with_records n (replaced n.records w)) { latest = max now n.latest }) v ≡ acknowledged_in n v
unfolding acknowledged_in
settles n now w v late same = grind (arith, common_steps, replaced_twice)

-- with both acknowledgements, whichever came first
both_in : (r : Record) (p q : Part) → (p.subtask ≡ q.subtask → ⊥)
    → with_ack (with_ack r p.subtask p.fresh p.reused) q.subtask q.fresh q.reused ≡ with_ack (with_ack r q.subtask q.fresh q.reused) p.subtask p.fresh p.reused
both_in r p q ne = grind (arith, common_steps, acks_commute)

-- the second of two acknowledgements, accepted after the first, is accepted before it
accepted_before : (m : State) (now id : ℕ) (p q : Part) (r : Record) → IsSound m → pending_of m.records id ≡ Some r → IsAcceptedAck m now id p.subtask p.fresh p.reused → ShareNone p.fresh q.reused
    → pending_of (replaced m.records (with_ack r p.subtask p.fresh p.reused)) id ≡ Some (with_ack r p.subtask p.fresh p.reused)
    → IsAcceptedAck (with_records (record m { latest = max now m.latest }) (replaced m.records (with_ack r p.subtask p.fresh p.reused))) now id q.subtask q.fresh q.reused
    → IsAcceptedAck m now id q.subtask q.fresh q.reused
accepted_before m now id p q r s k a apart k1 b =
    let w : Record = with_ack r p.subtask p.fresh p.reused in
    let after : List Record = replaced m.records w in
    let there : IsIn r m.records = (IsIn-from_find (λ x. is_pending x && eqb x.id id) r m.records k).0 in
    let not_known : (f : ℕ) → IsIn f q.fresh → is_known m f ≡ false = λ f h.
    let parts = or_parts (is_present (uses after) f) (in_outbox m f) (fails-from_find (λ g. is_present (uses after) g || in_outbox m g) f q.fresh (b.unknown w k1) h) in
    let none = λ (l : IsHeld f m.records). not_held f after parts.0 (held_still f m.records r p.subtask p.fresh p.reused s.records.in_order there l) in
    or_from (is_present (uses m.records) f) (in_outbox m f) (absent-from_not_held f m.records none) parts.1 in
    let is_there : (f : ℕ) → IsIn f q.reused → not (is_present (uses m.records) f) ≡ false = λ f h.
    let held : IsHeld f after = IsHeld-from_present f after (not-false (is_present (uses after) f) (fails-from_find (λ g. not (is_present (uses after) g)) f q.reused (b.present w k1) h)) in
    let named = held_or_named f m.records r p.subtask p.fresh p.reused s.records.in_order there held in
    grind (arith, common_steps, named, apart f, fails-from_find (λ g. not (is_present (uses m.records) g)) f p.reused (a.present r k), present-from_IsHeld f m.records) in
    record {
      moment = b.moment;
      few = b.few;
      once = b.once;
      given = b.given;
      of_subtask = λ x e. grind (arith, common_steps, b.of_subtask w k1);
      first = λ x e. grind (arith, common_steps, has_not_before r p.subtask q.subtask (ascending (p.fresh ++ p.reused)) (b.first w k1));
      unknown = λ x e. find-none (is_known m) q.fresh (list_any-none (is_known m) q.fresh not_known);
      present = λ x e. find-none _ q.reused (list_any-none _ q.reused is_there);
    }

-- the first, accepted before the second, is accepted after it
pub accepted_after : (m : State) (now id : ℕ) (p q : Part) (r : Record) → IsSound m → pending_of m.records id ≡ Some r → (p.subtask ≡ q.subtask → ⊥) → IsAcceptedAck m now id p.subtask p.fresh p.reused
    → ShareNone p.fresh q.reused → ShareNone p.fresh q.fresh → pending_of (replaced m.records (with_ack r q.subtask q.fresh q.reused)) id ≡ Some (with_ack r q.subtask q.fresh q.reused)
    → IsAcceptedAck (with_records (record m { latest = max now m.latest }) (replaced m.records (with_ack r q.subtask q.fresh q.reused))) now id p.subtask p.fresh p.reused
accepted_after m now id p q r s k ne a apart new k2 =
    let v : Record = with_ack r q.subtask q.fresh q.reused in
    let after : List Record = replaced m.records v in
    let there : IsIn r m.records = (IsIn-from_find (λ x. is_pending x && eqb x.id id) r m.records k).0 in
    let named = λ (f : ℕ). held_or_named f m.records r q.subtask q.fresh q.reused s.records.in_order there in
    let still = λ (f : ℕ). held_still f m.records r q.subtask q.fresh q.reused s.records.in_order there in
    let not_known : (f : ℕ) → IsIn f p.fresh → (is_present (uses after) f || in_outbox m f) ≡ false = λ f h.
    let unknown = fails-from_find (is_known m) f p.fresh (a.unknown r k) h in
    grind (arith, common_steps, unknown, IsHeld-from_present f after, named f, new f h, apart f h, present-from_IsHeld f m.records) in
    let is_there : (f : ℕ) → IsIn f p.reused → not (is_present (uses after) f) ≡ false = λ f h.
    let present = fails-from_find (λ g. not (is_present (uses m.records) g)) f p.reused (a.present r k) h in
    grind (arith, common_steps, present, IsHeld-from_present f m.records, still f, present-from_IsHeld f after) in
    record {
      moment = a.moment;
      few = a.few;
      once = a.once;
      given = a.given;
      of_subtask = λ x e. grind (arith, common_steps, a.of_subtask r k);
      first = λ x e. grind (arith, common_steps, has_not_after r q.subtask p.subtask (ascending (q.fresh ++ q.reused)) ne (a.first r k));
      unknown = λ x e. find-none _ p.fresh (list_any-none _ p.fresh not_known);
      present = λ x e. find-none _ p.reused (list_any-none _ p.reused is_there);
    }

-- no file is fresh in both
fresh_apart : (m : State) (now id : ℕ) (p q : Part) (r : Record) → pending_of m.records id ≡ Some r
    → pending_of (replaced m.records (with_ack r p.subtask p.fresh p.reused)) id ≡ Some (with_ack r p.subtask p.fresh p.reused)
    → IsAcceptedAck (with_records (record m { latest = max now m.latest }) (replaced m.records (with_ack r p.subtask p.fresh p.reused))) now id q.subtask q.fresh q.reused → ShareNone p.fresh q.fresh
fresh_apart m now id p q r k k1 b f h i =
    let w : Record = with_ack r p.subtask p.fresh p.reused in
    let after : List Record = replaced m.records w in
    let there = IsIn-from_find (λ x. is_pending x && eqb x.id id) r m.records k in
    let named = held_named f m.records r p.subtask p.fresh p.reused there.0 (IsIn-append_left f p.fresh p.reused h) in
    grind (arith, common_steps, not_held f after, named, fails-from_find (λ g. is_present (uses after) g || in_outbox m g) f q.fresh (b.unknown w k1) i)

-- the law, of a record that is found and acknowledgements that are accepted in the one order
exchanged : (m : State) (now id : ℕ) (p q : Part) (r : Record) → IsSound m → (p.subtask ≡ q.subtask → ⊥) → ShareNone p.fresh q.reused → pending_of m.records id ≡ Some r
    → refusal m (ack_of now id p) ≡ None → eqb (missing (with_ack r p.subtask p.fresh p.reused)) 0 ≡ false
    → refusal (with_records (record m { latest = max now m.latest }) (replaced m.records (with_ack r p.subtask p.fresh p.reused))) (ack_of now id q) ≡ None
    → ((step m (ack_of now id q)).1 ≡ (step m (ack_of now id p)).1) × (step (step m (ack_of now id q)).0 (ack_of now id p) ≡ step (step m (ack_of now id p)).0 (ack_of now id q))
exchanged m now id p q r s ne apart k ep lacks eq1 =
    let w : Record = with_ack r p.subtask p.fresh p.reused in
    let v : Record = with_ack r q.subtask q.fresh q.reused in
    let n : State = record m { latest = max now m.latest } in
    let m1 : State = with_records n (replaced m.records w) in
    let m2 : State = with_records n (replaced m.records v) in
    let A : Call = ack_of now id p in
    let B : Call = ack_of now id q in
    let pending : r.done ≡ false = not-true r.done (and_parts (is_pending r) (eqb r.id id) (IsIn-from_find (λ x. is_pending x && eqb x.id id) r m.records k).1).0 in
    let k1 : pending_of (replaced m.records w) id ≡ Some w = pending_of_replaced m.records id r w s.records.in_order k refl pending in
    let k2 : pending_of (replaced m.records v) id ≡ Some v = pending_of_replaced m.records id r v s.records.in_order k refl pending in
    let a : IsAcceptedAck m now id p.subtask p.fresh p.reused = accepted_ack m now id p.subtask p.fresh p.reused ep in
    let b1 : IsAcceptedAck m1 now id q.subtask q.fresh q.reused = accepted_ack m1 now id q.subtask q.fresh q.reused eq1 in
    let b : IsAcceptedAck m now id q.subtask q.fresh q.reused = accepted_before m now id p q r s k a apart k1 b1 in
    let eq : refusal m B ≡ None = not_refused-ack m now id q.subtask q.fresh q.reused b in
    let ep2 : refusal m2 A ≡ None = not_refused-ack m2 now id p.subtask p.fresh p.reused (accepted_after m now id p q r s k ne a apart (fresh_apart m now id p q r k k1 b1) k2) in
    let of_w : missing w + 1 ≡ missing r = missing_one_less r p.subtask (ascending (p.fresh ++ p.reused)) (a.of_subtask r k) (a.first r k) in
    let of_v : missing v + 1 ≡ missing r = missing_one_less r q.subtask (ascending (q.fresh ++ q.reused)) (b.of_subtask r k) (b.first r k) in
    let as_many : missing v ≡ missing w = omega arith in
    let stepA : step m A ≡ (m1, Done (reply.AckPending (missing w))) = step_ack m now id p r ep k ∙ left_pending n w lacks in
    let stepB : step m B ≡ (m2, Done (reply.AckPending (missing v))) = step_ack m now id q r eq k ∙ left_pending n v (ap (λ x. eqb x 0) as_many ∙ lacks) in
    let late : max now n.latest ≡ n.latest = omega arith in
    let last1 : step m1 B ≡ acknowledged_in n (with_ack w q.subtask q.fresh q.reused) = step_ack m1 now id q w eq1 k1 ∙ settles n now w (with_ack w q.subtask q.fresh q.reused) late refl in
    grind (arith, common_steps, with_ack, both_in, step_ack m2 now id p v ep2 k2 ∙ settles n now v (with_ack v p.subtask p.fresh p.reused) late refl)

-- the law of exchange
pub exchange : (m : State) (now id : ℕ) (p q : Part) → IsSound m → Exchange m now id p q
exchange m now id p q s ne apart first second =
    let found = pending_found m now id p first in
    let r : Record = found.0 in
    let w : Record = with_ack r p.subtask p.fresh p.reused in
    let n : State = record m { latest = max now m.latest } in
    let ep : refusal m (ack_of now id p) ≡ None = not_refused-from_answer is_ack_pending (λ why. refl) m (ack_of now id p) first in
    let stepped : step m (ack_of now id p) ≡ (with_records n (replaced m.records w), Done (reply.AckPending (missing w))) = step_ack m now id p r ep found.1 ∙ left_pending n w found.2 in
    let P : Stepped → Type 0 = λ x. is_ack_taken (step x.0 (ack_of now id q)).1 ≡ true in
    exchanged m now id p q r s ne apart found.1 ep found.2 (not_refused-from_answer is_ack_taken (λ why. refl) (with_records n (replaced m.records w)) (ack_of now id q) (subst P stepped second))
