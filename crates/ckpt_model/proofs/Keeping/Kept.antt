-- A done checkpoint stays, unchanged, through every call that may not drop it.
use Rattle.ckpt_model.proofs.Names.{◌≡◌, ℕ, ◌<◌, ◌≤◌, Bool, true, false, not, ◌&&◌, leb, ltb, eqb, List, [], ◌∷◌, refl, ap, max, ◌+◌, arith, count_by, Option, Some, None, cases_Bool, both_ways}
use Rattle.ckpt_model.proofs.Names.{not-true, and_parts, leb-false, lt-ltb, ltb-true, eqb-true, cond_both, SubtaskId, Call, Trigger, Configure, with_config, configure, is_surplus, Tick, Savepoint, Ack, Decline, Dispose, Restore, Cancel, IsIn, IsInOrder}
use Rattle.ckpt_model.proofs.Names.{IsInOrder-map, IsIn-map, IsIn-append_left, IsIn-from_list_any, Record, missing, Hold, Go, State, is_checkpoint, is_done_checkpoint, is_pending, is_expired, drop}
use Rattle.ckpt_model.proofs.Names.{kept, unpinned, refusal, pending_of, Stepped, triggered, failed_over, start_or_hold, after_expiry, tick, ack, acknowledged_in, completed_with, cleared}
use Rattle.ckpt_model.proofs.Names.{superseded, replaced, with_records, decline, decline_pending, dropping, dispose, restore, restarted, cancel, cancelled, failures_with, fails_the_job, take_files}
use Rattle.ckpt_model.proofs.Names.{effect, step, IsSound, AreCalls, id_before, count_by-same, is_done_savepoint, is_completing, is_accepted, may_drop, newer_than, Keeps, KeepsThrough, common_steps}
use Rattle.ckpt_ids.specs.declared.call.Target.TheVariants as target
use Rattle.ckpt_model.proofs.Records.{IsIn-changed, IsIn-from_find, count_by-left, cond_same, same_record, put_in, IsReplacing, put_in_replaces, unpinned_replaces, later, newest_at_least}
use Rattle.ckpt_model.proofs.Soundness.{is_savepoint, IsAcking, acking, acking_at, with_ack, completed, having, ending, staying, left_by, left_is, moment_is_sound}
use Rattle.ckpt_model.proofs.Answering.Accepted.{accepted_ack, accepted_decline, accepted_dispose}
use Rattle.ckpt_model.proofs.Answering.StepCases.{step_by}
use Rattle.ckpt_model.proofs.Soundness.Calls.{step_keeps}

-- a done checkpoint of a list
pub record IsDoneCheckpoint (r : Record) (rs : List Record) : Type 0 where
  pub there : IsIn r rs
  pub done : r.done ≡ true
  pub checkpoint : is_checkpoint r ≡ true

-- a completion

-- what comes after a record that comes after r comes after r
later_newer : (p : Record → Bool) (r x : Record) (rs : List Record) → r.id < x.id → later (λ s. p s && ltb r.id s.id) x rs ≡ later p x rs
later_newer p r x rs h =
    count_by-same (λ s. (p s && ltb r.id s.id) && ltb x.id s.id) (λ s. p s && ltb x.id s.id) rs (λ s _. grind (arith, common_steps, ltb-true x.id s.id, lt-ltb r.id s.id, cases_Bool))

-- one that comes after r, with fewer later ones than are retained, is left by a completion
left_newer : (m : State) (c r x : Record) → is_done_checkpoint x ≡ true → r.id < x.id → leb m.opening.config.retained (later (λ s. is_done_checkpoint s && ltb r.id s.id) x m.records) ≡ false
    → superseded m c x ≡ false
left_newer m c r x d less few = grind (arith, common_steps, later_newer is_done_checkpoint r x m.records less)

-- a completion leaves as many that come after r as are retained, if there were as many
as_many_left : (m : State) (c r : Record) → IsInOrder id_before m.records → m.opening.config.retained ≤ later is_done_checkpoint r m.records
    → m.opening.config.retained ≤ later is_done_checkpoint r (kept (superseded m c) (Some c.id) m.records)
as_many_left m c r order enough =
    let n : ℕ = m.opening.config.retained in
    let newer : Record → Bool = λ s. is_done_checkpoint s && ltb r.id s.id in
    let test : Record → Bool = λ s. newer s && not (leb n (later newer s m.records)) in
    let left : count_by test m.records ≤ count_by newer (kept (superseded m c) (Some c.id) m.records) =
    count_by-left newer test (unpinned (Some c.id)) (λ x. not (superseded m c x)) m.records (λ x h t.
    let a = and_parts (newer x) _ t in
    let b = and_parts (is_done_checkpoint x) _ a.0 in
    (ap not (left_newer m c r x b.0 (ltb-true r.id x.id b.1) (not-true _ a.1)), rw (cond_same newer (eqb x.id c.id) (record x { pins = [] }) x refl) a.0)) in
    omega (arith, newest_at_least newer n m.records order enough, left)

-- a done record with fewer is left too
pub not_superseded : (m : State) (c r : Record) → r.done ≡ true → leb m.opening.config.retained (later is_done_checkpoint r m.records) ≡ false → superseded m c r ≡ false
not_superseded m c r done few = grind (arith, common_steps)

-- so it leaves r, unless as many come after it as are retained
stays_completed : (m : State) (q c r : Record) → IsSound m → IsIn q m.records → q.done ≡ false → c.id ≡ q.id → IsDoneCheckpoint r m.records
    → leb m.opening.config.retained (later is_done_checkpoint r (left_by m c)) ≡ false → IsIn r (left_by m c)
stays_completed m q c r s there pending id d few =
    let g : IsReplacing (put_in c) q c m.records = put_in_replaces q c m.records s.records.in_order there id in
    let p : IsReplacing (ending c) q (record c { pins = [] }) m.records = unpinned_replaces q c m.records s.records.in_order there id in
    let order : IsInOrder id_before (having m c).records =
    IsInOrder-map id_before id_before (put_in c) m.records (λ x y e. lt-ltb (put_in c x).id (put_in c y).id (omega (arith, ltb-true x.id y.id e, g.same x, g.same y))) s.records.in_order in
    let other : r ≡ q → ⊥ = λ e. both_ways q.done pending (grind (arith, common_steps)) in
    let same : put_in c r ≡ r = grind (arith, common_steps, g.cases r d.there) in
    let few_before : leb m.opening.config.retained (later is_done_checkpoint r (having m c).records) ≡ false =
    grind (arith, common_steps, leb-false, as_many_left (having m c) c r order, cases_Bool) in
    let stays : staying m c r ≡ true = rw same (ap not (not_superseded (having m c) c r d.done few_before)) in
    rw (left_is m c) (grind (arith, common_steps, p.cases r d.there, IsIn-changed (ending c) (staying m c) r m.records d.there stays))

-- each call

-- a completion changes no record beside its drop
pub cleared_records : (m : State) (r : Record) → (cleared m r).records ≡ m.records
cleared_records m r = cond_same (λ (k : State). k.records) (is_checkpoint r) (record m { failures = 0; completed = Some m.latest; base = None }) m refl

-- by its answer a call completes no record, or it leaves fewer checkpoints that come after r than are retained
abbrev pub LeavesFewer : State → Record → Stepped → Type 0
LeavesFewer m r x = (is_completing x.1 && leb m.opening.config.retained (newer_than r.id x.0)) ≡ false

-- an acknowledgement of a pending record
acked_keeps : (m : State) (q r : Record) (subtask : SubtaskId) (fresh reused : List ℕ) → IsSound m → IsAcking m q subtask fresh reused → IsDoneCheckpoint r m.records
    → LeavesFewer m r (acknowledged_in m (with_ack q subtask fresh reused)) → IsIn r (acknowledged_in m (with_ack q subtask fresh reused)).0.records
unfolding acknowledged_in completed_with drop
acked_keeps m q r subtask fresh reused s a d =
    let w : Record = with_ack q subtask fresh reused in
    let c : Record = completed q subtask fresh reused in
    let n : State = having m c in
    let after : State = drop n (superseded n c) (Some c.id) in
    let g : IsReplacing (put_in w) q w m.records = put_in_replaces q w m.records s.records.in_order a.there refl in
    cond_both (eqb (missing w) 0) (completed_with n c) (with_records m (replaced m.records w), _) (λ (x : Stepped). LeavesFewer m r x → IsIn r x.0.records)
    (λ _ few. rw (cleared_records after c) (stays_completed m q c r s a.there a.pending refl d (rw (← cleared_records after c) few)))
    (λ _ _. grind (arith, common_steps, g.cases r d.there, IsIn-map (put_in w) r m.records, both_ways))

-- an accepted acknowledgement, of a pending record or late
ack_keeps : (m : State) (now id : ℕ) (subtask : SubtaskId) (fresh reused : List ℕ) (o : Option Record) (r : Record) → IsSound m → IsDoneCheckpoint r m.records
    → refusal m (Ack now id subtask fresh reused) ≡ None → pending_of m.records id ≡ o → LeavesFewer m r (ack (record m { latest = max now m.latest }) o subtask fresh reused)
    → IsIn r (ack (record m { latest = max now m.latest }) o subtask fresh reused).0.records
unfolding ack
ack_keeps m now id subtask fresh reused None r s d accepted e few = d.there
ack_keeps m now id subtask fresh reused (Some q) r s d accepted e few =
    let a = accepted_ack m now id subtask fresh reused accepted in
    let n : State = record m { latest = max now m.latest } in
    acked_keeps n q r subtask fresh reused (moment_is_sound m now s a.moment) (acking_at m (max now m.latest) q subtask fresh reused (acking m now id subtask fresh reused q a e)) d few

-- a drop of others
drop_keeps : (m : State) (dropped : Record → Bool) (r : Record) → IsIn r m.records → dropped r ≡ false → IsIn r (drop m dropped None).records
unfolding drop
drop_keeps m dropped r h e = IsIn-changed (λ (x : Record). x) (λ x. not (dropped x)) r m.records h (ap not e)

-- a start, or what holds it back
start_keeps : (m : State) (expired : ℕ) (h : Hold) (r : Record) → IsIn r m.records → IsIn r (start_or_hold m expired h).0.records
unfolding start_or_hold triggered
start_keeps m expired Go r there = IsIn-append_left r m.records _ there
start_keeps m expired h r there = there

-- a tick
tick_keeps : (m : State) (r : Record) → IsIn r m.records → r.done ≡ true → IsIn r (tick m).0.records
unfolding tick after_expiry failed_over
tick_keeps m r h done =
    let expired : Record → Bool = is_expired m m.latest in
    let late : ℕ = count_by (λ x. expired x && is_checkpoint x) m.records in
    let counted : State = record m { failures = m.failures + late } in
    let k : State = drop counted expired None in
    cond_both (ltb 0 late && ltb m.opening.config.tolerable (m.failures + late)) (failed_over counted, _) (after_expiry k _) (λ (x : Stepped). IsIn r x.0.records)
    (λ _. drop_keeps counted is_pending r h (ap not done))
    (λ _. start_keeps k _ _ r (drop_keeps counted expired r h (grind (arith, common_steps))))

-- a decline
decline_keeps : (m : State) (id : ℕ) (o : Option Record) (r : Record) → IsSound m → IsDoneCheckpoint r m.records → pending_of m.records id ≡ o → IsIn r (decline m o).0.records
unfolding decline decline_pending dropping failed_over
decline_keeps m id None r s d e = d.there
decline_keeps m id (Some q) r s d e =
    let found = IsIn-from_find (λ x. is_pending x && eqb x.id id) q m.records e in
    let counted : State = record m { failures = failures_with m q } in
    let other : eqb r.id q.id ≡ false =
    grind (arith, common_steps, not-true r.done, and_parts, both_ways, same_record r q m.records s.records.in_order d.there found.0, eqb-true r.id q.id, cases_Bool (eqb r.id q.id)) in
    cond_both (fails_the_job m q) (failed_over counted, _) (drop counted (λ x. eqb x.id q.id) None, _) (λ (x : Stepped). IsIn r x.0.records)
    (λ _. drop_keeps counted is_pending r d.there (ap not d.done)) (λ _. drop_keeps counted (λ x. eqb x.id q.id) r d.there other)

-- a dispose of a savepoint
dispose_keeps : (m : State) (id : ℕ) (r : Record) → IsSound m → IsDoneCheckpoint r m.records → is_done_savepoint m id ≡ true → IsIn r (dispose m id).0.records
unfolding dispose dropping
dispose_keeps m id r s d there =
    let q = IsIn-from_list_any (is_savepoint id) m.records there in
    drop_keeps m (λ x. eqb x.id id) r d.there
    (grind (arith, common_steps, both_ways, and_parts, not-true, same_record r q.0 m.records s.records.in_order d.there q.1, eqb-true, cases_Bool))

-- through each call
stays : (m : State) (call : Call) (r : Record) → IsSound m → IsDoneCheckpoint r m.records → may_drop r.id m call ≡ false → IsIn r (step m call).0.records
unfolding effect restore restarted cancel take_files triggered configure with_config
stays m (Tick now) r s d e = step_by m (Tick now) (λ x. IsIn r x.0.records) (λ _ _. d.there) (λ _. tick_keeps (record m { latest = max now m.latest }) r d.there d.done)
stays m (Savepoint now) r s d e = step_by m (Savepoint now) (λ x. IsIn r x.0.records) (λ _ _. d.there) (λ _. IsIn-append_left r m.records _ d.there)
stays m (Ack now id subtask fresh reused) r s d e =
    step_by m (Ack now id subtask fresh reused) (λ x. LeavesFewer m r x → IsIn r x.0.records) (λ _ _ _. d.there)
    (λ accepted. ack_keeps m now id subtask fresh reused (pending_of m.records id) r s d accepted refl) e
stays m (Decline now id subtask) r s d e =
    step_by m (Decline now id subtask) (λ x. IsIn r x.0.records) (λ _ _. d.there)
    (λ accepted. decline_keeps (record m { latest = max now m.latest }) id (pending_of m.records id) r (moment_is_sound m now s (accepted_decline m now id subtask accepted)) d refl)
stays m (Dispose id) r s d e =
    step_by m (Dispose id) (λ x. IsIn r x.0.records) (λ _ _. d.there) (λ accepted. dispose_keeps m id r s d (accepted_dispose m id accepted).0)
stays m (Restore now target.Latest shape) r s d e =
    step_by m (Restore now target.Latest shape) (λ x. IsIn r x.0.records) (λ _ _. d.there) (λ _. drop_keeps (record m { latest = max now m.latest }) is_pending r d.there (ap not d.done))
stays m (Restore now (target.Savepoint id) shape) r s d e =
    step_by m (Restore now (target.Savepoint id) shape) (λ x. is_accepted x.1 ≡ false → IsIn r x.0.records) (λ _ _ _. d.there) (λ _ done. absurd (both_ways true done refl)) e
stays m (Cancel now) r s d e =
    step_by m (Cancel now) (λ x. (is_accepted x.1 && not m.opening.config.keep_on_cancel) ≡ false → IsIn r x.0.records) (λ _ _ _. d.there)
    (λ _ keeps. drop_keeps (record m { latest = max now m.latest }) (cancelled (record m { latest = max now m.latest })) r d.there (grind (arith, common_steps))) e
stays m (Trigger now) r s d e = step_by m (Trigger now) (λ x. IsIn r x.0.records) (λ _ _. d.there) (λ _. start_keeps (record m { latest = max now m.latest }) 0 Go r d.there)
stays m (Configure now c) r s d e =
    step_by m (Configure now c) (λ x. (is_accepted x.1 && leb c.retained (newer_than r.id m)) ≡ false → IsIn r x.0.records) (λ _ _ _. d.there)
    (λ _ few. let n : State = with_config (record m { latest = max now m.latest }) c in drop_keeps n (is_surplus n) r d.there (grind (arith, common_steps))) e
stays m call r s d e = step_by m call (λ x. IsIn r x.0.records) (λ _ _. d.there) (λ _. d.there)

-- the law, of one call
pub keeps : (m : State) (call : Call) → IsSound m → Keeps m call
keeps m call s r h d e = let both = and_parts r.done (is_checkpoint r) d in stays m call r s (record { there = h; done = both.0; checkpoint = both.1 }) e

-- and of a list of calls
pub keeps_through : (m : State) (calls : List Call) → IsSound m → AreCalls calls → KeepsThrough m calls
keeps_through m [] s a r h d n = h
keeps_through m (call ∷ calls) s a r h d n = keeps_through (step m call).0 calls (step_keeps m call a.0 s) a.1 r (keeps m call s r h d n.0) d n.1
