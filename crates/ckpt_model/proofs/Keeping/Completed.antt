-- An acknowledgement that is answered AckCompleted leaves its record live and done, and a restart takes it, if it is a checkpoint.
use Rattle.ckpt_model.proofs.Names.{◌≡◌, ℕ, ◌≤◌, true, false, not, ◌&&◌, ltb, eqb, List, [], refl, sym, ap, subst, ◌∙◌, max, arith, Option, Some, None, cases_Bool, both_ways, and_parts, ltb-true}
use Rattle.ckpt_model.proofs.Names.{eqb-true, IsIn-from_map, cond_both, SubtaskId, Ack, IsIn, Record, missing, State, is_checkpoint, is_done_checkpoint, choice_of, record_of, drop, is_pending}
use Rattle.ckpt_model.proofs.Names.{refusal, pending_of, Stepped, superseded, with_records, replaced, acknowledged_in, completed_with, ack, effect, step, IsSound, Part, ack_of, list_any-from_IsIn}
use Rattle.ckpt_model.proofs.Names.{is_completing, LeavesDone, count_by-none, common_steps}
use Rattle.ckpt_ids.specs.declared.reply.Choice.TheVariants as choice
use Rattle.ckpt_model.proofs.Records.{IsIn-changed, IsIn-from_changed, IsIn-from_find, put_in, IsReplacing, put_in_replaces, unpinned_replaces, later, is_pending_checkpoint}
use Rattle.ckpt_model.proofs.Soundness.{IsAcking, acking, acking_at, with_ack, completed, having, ending, staying, left_by, left_is, moment_is_sound}
use Rattle.ckpt_model.proofs.Soundness.Calls.{step_keeps}
use Rattle.ckpt_model.proofs.Answering.Accepted.{accepted_ack}
use Rattle.ckpt_model.proofs.Answering.StepCases.{step_by}
use Rattle.ckpt_model.proofs.Histories.Choice.{found}
use Rattle.ckpt_model.proofs.Keeping.Kept.{not_superseded, cleared_records}
use Rattle.ckpt_model.proofs.Keeping.Latest.{takes_newest}

-- all done checkpoints come before a pending one that is completed in the place of q
none_later : (m : State) (q c : Record) → IsSound m → IsIn q m.records → c.id ≡ q.id → is_pending_checkpoint q ≡ true → later is_done_checkpoint c (having m c).records ≡ 0
none_later m q c s there id waits =
    let g : IsReplacing (put_in c) q c m.records = put_in_replaces q c m.records s.records.in_order there id in
    count_by-none (λ x. is_done_checkpoint x && ltb c.id x.id) (having m c).records
    (λ x h. let y = IsIn-from_map (put_in c) x m.records h in grind (arith, common_steps, g.cases y.0 y.1, s.records.newer q y.0 there y.1 waits, and_parts, ltb-true c.id x.id, cases_Bool))

-- the record of this number is live and done, and no done checkpoint is newer, if it is one
pub record IsLeft (number : ℕ) (records : List Record) : Type 0 where
  pub r : Record
  pub live : IsIn r records
  pub id : r.id ≡ number
  pub done : r.done ≡ true
  pub newest : is_checkpoint r ≡ true → (x : Record) → IsIn x records → is_done_checkpoint x ≡ true → x.id ≤ r.id

-- a completion does not drop the record that it completes
stays_itself : (m : State) (q c : Record) → IsSound m → IsIn q m.records → q.done ≡ false → c.id ≡ q.id → c.done ≡ true → is_checkpoint c ≡ is_checkpoint q → superseded (having m c) c c ≡ false
stays_itself m q c s there pending id done kind =
    let none : is_checkpoint c ≡ true → later is_done_checkpoint c (having m c).records ≡ 0 = λ e. none_later m q c s there id (grind (arith, common_steps)) in
    grind (arith, common_steps, not_superseded (having m c) c c done, s.config.retained_from, none, cases_Bool)

-- it leaves it
completed_left : (m : State) (q c : Record) → IsSound m → IsIn q m.records → q.done ≡ false → c.id ≡ q.id → c.done ≡ true → is_checkpoint c ≡ is_checkpoint q → IsLeft q.id (left_by m c)
completed_left m q c s there pending id done kind =
    let g : IsReplacing (put_in c) q c m.records = put_in_replaces q c m.records s.records.in_order there id in
    let p : IsReplacing (ending c) q (record c { pins = [] }) m.records = unpinned_replaces q c m.records s.records.in_order there id in
    let put : put_in c q ≡ c = grind (arith, common_steps, g.cases q there) in
    let ends : ending c q ≡ record c { pins = [] } = grind (arith, common_steps, p.cases q there) in
    let stays : staying m c q ≡ true = rw put (ap not (stays_itself m q c s there pending id done kind)) in
    record {
      r = record c { pins = [] };
      live = rw (left_is m c) (rw ends at (IsIn-changed (ending c) (staying m c) q m.records there stays));
      id = id;
      done = done;
      newest = λ e x h d. let y = IsIn-from_changed (ending c) (staying m c) x m.records (rw (left_is m c) at h) in
          grind (arith, common_steps, p.cases y.0 y.1, s.records.newer q y.0 there y.1, and_parts);
    }

-- an acknowledgement of a pending record
acked_left : (m : State) (q : Record) (subtask : SubtaskId) (fresh reused : List ℕ) → IsSound m → IsAcking m q subtask fresh reused
    → is_completing (acknowledged_in m (with_ack q subtask fresh reused)).1 ≡ true → IsLeft q.id (acknowledged_in m (with_ack q subtask fresh reused)).0.records
unfolding acknowledged_in completed_with drop
acked_left m q subtask fresh reused s a =
    let w : Record = with_ack q subtask fresh reused in
    let c : Record = completed q subtask fresh reused in
    let n : State = having m c in
    let after : State = drop n (superseded n c) (Some c.id) in
    cond_both (eqb (missing w) 0) (completed_with n c) (with_records m (replaced m.records w), _) (λ (x : Stepped). is_completing x.1 ≡ true → IsLeft q.id x.0.records)
    (λ _ _. rw (cleared_records after c) (completed_left m q c s a.there a.pending refl refl refl))
    (λ _ e. absurd (both_ways false refl e))

-- an accepted acknowledgement
ack_left : (m : State) (now id : ℕ) (subtask : SubtaskId) (fresh reused : List ℕ) (o : Option Record) → IsSound m → refusal m (Ack now id subtask fresh reused) ≡ None → pending_of m.records id ≡ o
    → is_completing (ack (record m { latest = max now m.latest }) o subtask fresh reused).1 ≡ true → IsLeft id (ack (record m { latest = max now m.latest }) o subtask fresh reused).0.records
unfolding ack
ack_left m now id subtask fresh reused None s accepted e completes = absurd (both_ways false refl completes)
ack_left m now id subtask fresh reused (Some q) s accepted e completes =
    let a = accepted_ack m now id subtask fresh reused accepted in
    let n : State = record m { latest = max now m.latest } in
    let its : q.id ≡ id = eqb-true q.id id (and_parts (is_pending q) (eqb q.id id) (IsIn-from_find (λ r. is_pending r && eqb r.id id) q m.records e).1).1 in
    let left = acked_left n q subtask fresh reused (moment_is_sound m now s a.moment) (acking_at m (max now m.latest) q subtask fresh reused (acking m now id subtask fresh reused q a e)) completes in
    let Left : ℕ → Type 0 = λ i. IsLeft i (ack n (Some q) subtask fresh reused).0.records in
    subst Left its left

-- it is found by its number, and a restart takes it, if it is a checkpoint
left_is_taken : (m : State) (id : ℕ) → IsSound m → IsLeft id m.records → (r : Record) × (record_of m id ≡ Some r) × (r.done ≡ true) × (is_checkpoint r ≡ true → choice_of m ≡ choice.Checkpoint id)
left_is_taken m id s l =
    let r : Record = l.r in
    let taken : is_checkpoint r ≡ true → choice_of m ≡ choice.Checkpoint id = λ e.
    let d : is_done_checkpoint r ≡ true = grind (arith, common_steps) in
    let t = (takes_newest m s).checkpoint (list_any-from_IsIn is_done_checkpoint r m.records l.live d) in
    let same : (t.0).id ≡ id = omega (arith, l.id, l.newest e t.0 (t.1).live (t.1).done, (t.1).greatest r l.live d) in
    t.2 ∙ ap choice.Checkpoint same in
    (r, ap (record_of m) (sym l.id) ∙ found m r s.records.in_order l.live, l.done, taken)

-- the law
pub leaves_done : (m : State) (now id : ℕ) (p : Part) → IsSound m → LeavesDone m now id p
unfolding effect
leaves_done m now id p s completes =
    let left = step_by m (ack_of now id p) (λ x. is_completing x.1 ≡ true → IsLeft id x.0.records) (λ _ _ e. absurd (both_ways false refl e))
    (λ accepted. ack_left m now id p.subtask p.fresh p.reused (pending_of m.records id) s accepted refl) completes in
    left_is_taken (step m (ack_of now id p)).0 id (step_keeps m (ack_of now id p) tt s) left
