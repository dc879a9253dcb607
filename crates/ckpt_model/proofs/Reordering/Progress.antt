-- All that a pending record lacks acknowledge, and complete it.
use Rattle.ckpt_model.proofs.Names.{common_steps, ◌≡◌, ℕ, ◌+◌, ◌<◌, max, true, false, not, eqb, List, [], ◌∷◌, length, map, refl, sym, ap, subst, ◌∙◌, inl, inr, arith, Some, both_ways, ne_eqb, not-true, and_parts}
use Rattle.ckpt_model.proofs.Names.{Done, IsIn, ascending, Record, uses, is_present, missing, find-none, list_any-none, State, is_pending, is_known, pending_of, Stepped, acknowledged_in, completed_with}
use Rattle.ckpt_model.proofs.Names.{replaced, with_records, step, answers, IsSound, Part, ShareNone, is_ack_pending, is_completing, eq-eqb, in_outbox, or_parts, not-false, ◌&&◌, ◌++◌, ◌^◌}
use Rattle.ckpt_ids.specs.declared.reply.Reply.TheVariants as reply
use Rattle.ckpt_model.specs.Progress.{AreOfDifferent, Completes, EndsCompleted, HasFiles, IsLacking, IsWithin, TimedPart, ack_at}
use Rattle.ckpt_model.proofs.Records.{IsIn-from_find, fails-from_find}
use Rattle.ckpt_model.proofs.Answering.Accepted.{IsAcceptedAck, not_refused-ack}
use Rattle.ckpt_model.proofs.Soundness.{with_ack}
use Rattle.ckpt_model.proofs.Soundness.Calls.{step_keeps}
use Rattle.ckpt_model.proofs.Reordering.Exchange.{accepted_after, left_pending, step_ack}
use Rattle.ckpt_model.proofs.Reordering.ExchangeLemmas.{missing_one_less, pending_of_replaced}
use Rattle.ckpt_model.proofs.Reordering.NewFiles.{was_given}

-- each would be accepted now
abbrev Accepts : State → ℕ → TimedPart → Type 0
Accepts m id t = IsAcceptedAck m t.now id t.part.subtask t.part.fresh t.part.reused

accepts : (m : State) (id : ℕ) (r : Record) (t : TimedPart) → IsSound m → pending_of m.records id ≡ Some r → IsLacking r t.part → IsWithin t → HasFiles m t.part → Accepts m id t
accepts m id r t s found l w h = record {
  moment = w.moment;
  few = w.few;
  once = w.once;
  given = was_given m id r s found;
  of_subtask = λ x e. grind (arith, common_steps, l.of_record);
  first = λ x e. grind (arith, common_steps, l.lacks);
  unknown = λ x e. find-none (is_known m) t.part.fresh (list_any-none (is_known m) t.part.fresh h.new);
  present = λ x e. find-none _ t.part.reused (list_any-none (λ f. not (is_present (uses m.records) f)) t.part.reused (λ f k. ap not (h.used f k)));
}

-- at another moment too
accepted_at : (m : State) (now then_ id : ℕ) (p : Part) → then_ < 2 ^ 62 → IsAcceptedAck m now id p.subtask p.fresh p.reused → IsAcceptedAck m then_ id p.subtask p.fresh p.reused
accepted_at m now then_ id p moment a = record {
  moment = moment;
  few = a.few;
  once = a.once;
  given = a.given;
  of_subtask = a.of_subtask;
  first = a.first;
  unknown = a.unknown;
  present = a.present;
}

-- the record with an acknowledgement, and the state after it
abbrev with_part : Record → TimedPart → Record
with_part r t = with_ack r t.part.subtask t.part.fresh t.part.reused

abbrev after_part : State → Record → TimedPart → State
after_part m r t = with_records (record m { latest = max t.now m.latest }) (replaced m.records (with_part r t))

one_less : (m : State) (id : ℕ) (r : Record) (t : TimedPart) → pending_of m.records id ≡ Some r → Accepts m id t → missing (with_part r t) + 1 ≡ missing r
one_less m id r t found a = missing_one_less r t.part.subtask (ascending (t.part.fresh ++ t.part.reused)) (a.of_subtask r found) (a.first r found)

-- the last one completes the record
completed_in : (m : State) (w : Record) → eqb (missing w) 0 ≡ true → is_completing (acknowledged_in m w).1 ≡ true
unfolding acknowledged_in completed_with
completed_in m w e = grind (arith, common_steps)

last_completes : (m : State) (id : ℕ) (r : Record) (t : TimedPart) → pending_of m.records id ≡ Some r → missing r ≡ 1 → Accepts m id t → is_completing (step m (ack_at id t)).1 ≡ true
last_completes m id r t found one a =
    let w : Record = with_part r t in
    let none : eqb (missing w) 0 ≡ true = eq-eqb (missing w) 0 (omega (arith, one_less m id r t found a)) in
    ap (λ (x : Stepped). is_completing x.1) (step_ack m t.now id t.part r (not_refused-ack m t.now id t.part.subtask t.part.fresh t.part.reused a) found)
    ∙ completed_in (record m { latest = max t.now m.latest }) w none

-- another one leaves it pending
leaves : (m : State) (id : ℕ) (r : Record) (t : TimedPart) → pending_of m.records id ≡ Some r → 1 < missing r → Accepts m id t
    → step m (ack_at id t) ≡ (after_part m r t, Done (reply.AckPending (missing (with_part r t))))
leaves m id r t found more a =
    let w : Record = with_part r t in
    let some : eqb (missing w) 0 ≡ false = ne_eqb (missing w) 0 (λ e. absurd (omega (arith, one_less m id r t found a))) in
    step_ack m t.now id t.part r (not_refused-ack m t.now id t.part.subtask t.part.fresh t.part.reused a) found ∙ left_pending (record m { latest = max t.now m.latest }) w some

found_after : (m : State) (id : ℕ) (r : Record) (t : TimedPart) → IsSound m → pending_of m.records id ≡ Some r → pending_of (after_part m r t).records id ≡ Some (with_part r t)
found_after m id r t s found =
    let there = IsIn-from_find (λ x. is_pending x && eqb x.id id) r m.records found in
    pending_of_replaced m.records id r (with_part r t) s.records.in_order found refl (not-true r.done (and_parts (is_pending r) (eqb r.id id) there.1).0)

-- what would be accepted before is accepted after it
still_accepts : (m : State) (id : ℕ) (r : Record) (t u : TimedPart) → IsSound m → pending_of m.records id ≡ Some r → Accepts m id t → Accepts m id u → (t.part.subtask ≡ u.part.subtask → ⊥)
    → ShareNone t.part.fresh u.part.fresh → Accepts (after_part m r t) id u
still_accepts m id r t u s found a b ne apart =
    let other : ShareNone u.part.fresh t.part.reused = λ f h k.
    both_ways (is_present (uses m.records) f)
    ((or_parts (is_present (uses m.records) f) (in_outbox m f) (fails-from_find (is_known m) f u.part.fresh (b.unknown r found) h)).0)
    (not-false (is_present (uses m.records) f) (fails-from_find (λ g. not (is_present (uses m.records) g)) f t.part.reused (a.present r found) k)) in
    accepted_at (after_part m r t) t.now u.now id u.part b.moment
    (accepted_after m t.now id u.part t.part r s found (λ e. ne (sym e)) (accepted_at m u.now t.now id u.part a.moment b) other (λ f h k. apart f k h) (found_after m id r t s found))

-- one after the other
all_complete : (m : State) (id : ℕ) (r : Record) (ts : List TimedPart) → IsSound m → pending_of m.records id ≡ Some r → length ts ≡ missing r → ((t : TimedPart) → IsIn t ts → Accepts m id t)
    → AreOfDifferent ts → EndsCompleted (answers m (map (ack_at id) ts))
all_complete m id r [] s found all each apart =
    let there = IsIn-from_find (λ x. is_pending x && eqb x.id id) r m.records found in
    let some : 0 < missing r = (s.records.each r there.0).pending (not-true r.done (and_parts (is_pending r) (eqb r.id id) there.1).0) in
    absurd (omega arith)
all_complete m id r (t ∷ []) s found all each apart = last_completes m id r t found (sym all) (each t (inl refl))
all_complete m id r (t ∷ u ∷ rest) s found all each apart =
    let a : Accepts m id t = each t (inl refl) in
    let w : Record = with_part r t in
    let e : step m (ack_at id t) ≡ (after_part m r t, Done (reply.AckPending (missing w))) = leaves m id r t found (omega arith) a in
    let sound : IsSound (after_part m r t) = subst (λ (x : Stepped). IsSound x.0) e (step_keeps m (ack_at id t) tt s) in
    let left : length (u ∷ rest) ≡ missing w = omega (arith, one_less m id r t found a) in
    let then_ = all_complete (after_part m r t) id w (u ∷ rest) sound (found_after m id r t s found) left
    (λ x h. let d = apart.0 x h in still_accepts m id r t x s found a (each x (inr h)) d.0 d.1) apart.1 in
    (ap (λ (x : Stepped). is_ack_pending x.1) e, subst (λ (x : Stepped). EndsCompleted (answers x.0 (map (ack_at id) (u ∷ rest)))) (sym e) then_)

-- the law
pub completes : (m : State) (id : ℕ) (r : Record) (ts : List TimedPart) → IsSound m → Completes m id r ts
completes m id r ts s found missing_ each =
    all_complete m id r ts s found missing_.all (λ t h. let e = each t h in accepts m id r t s found (missing_.each t h) e.0 e.1) missing_.apart
