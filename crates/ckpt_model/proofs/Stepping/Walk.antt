-- The walk over all calls of `step`: what each changes.
use Rattle.ckpt_model.proofs.Names.{◌≡◌, ℕ, ◌+◌, ◌<◌, ◌≤◌, ◌^◌, max, Bool, true, false, not, ◌&&◌, ltb, eqb, List, [], ◌∷◌, ◌++◌, take, refl, ap, inl, inr, arith, count_by, Option, Some, None}
use Rattle.ckpt_model.proofs.Names.{unwrap_or, filter, cases_Bool, both_ways, not-true, and_parts, cond_both, eqb-true, ltb-false, SubtaskId, Target, Call, Tick, Savepoint, Ack, Decline, Dispose}
use Rattle.ckpt_model.proofs.Names.{Restore, Cancel, Take, Deleted, Undeleted, Show, Count, Answer, Done, IsIn, Record, hold, gap, Hold, Go, Running, Failed, Cancelled, State, is_checkpoint}
use Rattle.ckpt_model.proofs.Names.{is_pending, is_expired, is_known, record_of, drop, pins_now, refusal, moment_of, pending_of, is_done_savepoint, is_number, savepoints, Stepped, pending_checkpoints}
use Rattle.ckpt_model.proofs.Names.{Opening, Configuration, Trigger, Configure, limit, is_surplus, with_config, configure, dropped_by, triggered, failed_over, start_or_hold, after_expiry, tick, ack, failures_with, fails_the_job, decline, decline_pending, dropping, dispose, restore}
use Rattle.ckpt_model.proofs.Names.{restarted, rolled_back, cancel, cancelled, take_files, without, show, effect, at_moment, step, IsSound, given_as, is_ack_taken, registered_as, common_steps}
use Rattle.std.specs.Prelude as prelude
use Rattle.ckpt_ids.specs.declared.numbers.Kind.TheVariants as kind
use Rattle.ckpt_ids.specs.declared.call.Target.TheVariants as target
use Rattle.ckpt_ids.specs.declared.reply.Reply.TheVariants as reply
use Rattle.ckpt_model.proofs.Records.{IsIn-from_find, same_record, distinct-from_test}
use Rattle.ckpt_model.proofs.Answering.Accepted.{IsAcceptedAck, accepted_tick, accepted_savepoint, accepted_ack, accepted_decline, accepted_dispose, accepted_restore, accepted_restore_savepoint}
use Rattle.ckpt_model.proofs.Answering.Accepted.{accepted_cancel, accepted_deleted, accepted_undeleted, accepted_trigger, accepted_configure}
use Rattle.ckpt_model.proofs.Answering.StepCases.{step_by}
use Rattle.ckpt_model.proofs.Soundness.{moment_is_sound, checkpoint_is_sound, savepoint_is_sound, fewer-from_go, few_failures, expired_is_pending, with_ack, acking, acking_at, late_is_sound}
use Rattle.ckpt_model.proofs.Soundness.{take_is_sound, deleted_is_sound, undeleted_is_sound, configured_is_sound}
use Rattle.ckpt_model.proofs.Records.Pins.{pins_stay}
use Rattle.ckpt_model.proofs.Histories.Moves.{unmoved, dropped_moves}
use Rattle.ckpt_model.proofs.Histories.Spreads.{late_spreads, drop_spreads}
use Rattle.ckpt_model.proofs.Stepping.Changes.{IsStep, IsPlain, settings, plain_step, plain_at, unchanged, refusal_step, outbox_step, dropped_is, triggered_is}
use Rattle.ckpt_model.proofs.Stepping.Files.{spread_settled, take_settled, deleted_settled, undeleted_settled}
use Rattle.ckpt_model.proofs.Stepping.Acknowledged.{acknowledged_is_taken, acked_is}

-- a done record is not pending
done_not_pending : (r : Record) → r.done ≡ true → is_pending r ≡ false
done_not_pending r done = ap not done

-- failing over, whatever the failures
failed_over_is : (m : State) (call : Call) (failures : ℕ) → IsPlain m call (failed_over (record m { failures = failures })) []
unfolding failed_over drop
failed_over_is m call failures = dropped_is m call (record (settings m) { mode = Failed; failures = failures }) is_pending (grind (arith, common_steps))

-- a start, or what holds it back
start_is : (m k : State) (call : Call) (expired : ℕ) (h : Hold) → hold k.opening.config k.due k.completed k.latest (pending_checkpoints k) ≡ h → IsPlain m call k [] → k.next ≡ m.next
    → (IsSound m → pins_now k ≡ pins_now m) → k.mode ≡ Running → k.next < 2 ^ 62 → IsPlain m call (start_or_hold k expired h).0 (given_as (start_or_hold k expired h).1)
unfolding start_or_hold
start_is m k call expired Go e p next pins running room =
    triggered_is m k call kind.Checkpoint (k.latest + gap k.opening.config) p next pins
    (λ s. checkpoint_is_sound k _ s running room (fewer-from_go k.opening.config k.due k.completed k.latest (pending_checkpoints k) e))
start_is m k call expired h e p next pins running room = p

-- a tick of a job that runs
tick_is : (m : State) (call : Call) → m.mode ≡ Running → m.next < 2 ^ 62 → IsPlain m call (tick m).0 (given_as (tick m).1)
unfolding tick after_expiry drop
tick_is m call running room =
    let expired : Record → Bool = is_expired m m.latest in
    let late : ℕ = count_by (λ r. expired r && is_checkpoint r) m.records in
    let counted : State = record m { failures = m.failures + late } in
    let k : State = drop counted expired None in
    let keeps : (r : Record) → r.done ≡ true → expired r ≡ false = λ r done. expired_is_pending m m.latest r (done_not_pending r done) in
    cond_both (ltb 0 late && ltb m.opening.config.tolerable (m.failures + late)) (failed_over counted, _) (after_expiry k (dropped_by m expired)) (λ (x : Stepped). IsPlain m call x.0 (given_as x.1))
    (λ _. failed_over_is m call (m.failures + late))
    (λ e. start_is m k call (dropped_by m expired) _ refl
    (dropped_is m call (record (settings m) { failures = m.failures + late }) expired (grind (arith, common_steps, keeps, few_failures) steps 1000000)) refl
    (λ s. pins_stay m k (λ r. not (expired r)) s refl refl (λ r _ done. ap not (keeps r done))) running room)

-- a trigger whatever the interval and the pause
trigger_is : (m : State) (call : Call) → m.mode ≡ Running → m.next < 2 ^ 62 → pending_checkpoints m < limit m.opening.config → IsPlain m call (start_or_hold m 0 Go).0 (given_as (start_or_hold m 0 Go).1)
unfolding start_or_hold
trigger_is m call running room fewer =
    triggered_is m m call kind.Checkpoint (m.latest + gap m.opening.config) (unchanged m call) refl (λ _. refl) (λ s. checkpoint_is_sound m _ s running room fewer)

-- a new configuration
configure_is : (m : State) (now : ℕ) (c : Configuration) → pending_checkpoints m ≤ limit c → IsPlain m (Configure now c) (configure m c).0 (given_as (configure m c).1)
unfolding configure with_config drop
configure_is m now c few =
    let n : State = with_config m c in
    record {
      opening = refl;
      config = inr refl;
      gives = inl (refl, refl);
      sound = λ within s. configured_is_sound m c within few s;
      moves = λ _. dropped_moves m (is_surplus n) None (λ r h done savepoint. inl (grind (arith, common_steps)));
      spreads = drop_spreads n (is_surplus n);
    }

-- a savepoint's trigger
savepoint_is : (m : State) (call : Call) → m.mode ≡ Running → m.next < 2 ^ 62 → savepoints m < 1000 → IsPlain m call (triggered m kind.Savepoint) (m.next ∷ [])
unfolding triggered
savepoint_is m call running room fewer = triggered_is m m call kind.Savepoint m.due (unchanged m call) refl (λ _. refl) (λ s. savepoint_is_sound m s running room fewer)

-- if a decline does not fail over, few enough have failed
few_after_decline : (m : State) (r : Record) → m.failures ≤ m.opening.config.tolerable → fails_the_job m r ≡ false → failures_with m r ≤ m.opening.config.tolerable
few_after_decline m r few = grind (arith, common_steps, ltb-false) steps 1000000

-- a decline
decline_is : (m : State) (call : Call) (id : ℕ) (o : Option Record) → pending_of m.records id ≡ o → IsPlain m call (decline m o).0 (given_as (decline m o).1)
unfolding decline decline_pending dropping
decline_is m call id None e = unchanged m call
decline_is m call id (Some r) e =
    let mine : Record → Bool = λ x. eqb x.id r.id in
    let found = IsIn-from_find (λ x. is_pending x && eqb x.id id) r m.records e in
    let other : IsSound m → (x : Record) → IsIn x m.records → x.done ≡ true → mine x ≡ false = λ s x h done.
    grind (arith, common_steps, not-true r.done, and_parts, both_ways, same_record x r m.records s.records.in_order h found.0, eqb-true x.id r.id, cases_Bool (eqb x.id r.id)) in
    cond_both (fails_the_job m r) (failed_over (record m { failures = failures_with m r }), _) (drop (record m { failures = failures_with m r }) mine None, _)
    (λ (x : Stepped). IsPlain m call x.0 (given_as x.1))
    (λ _. failed_over_is m call (failures_with m r))
    (λ e. dropped_is m call (record (settings m) { failures = failures_with m r }) mine (grind (arith, common_steps, few_after_decline) steps 1000000))

-- a dispose of a savepoint that is not the base
dispose_is : (m : State) (id : ℕ) → is_number m.base id ≡ false → IsPlain m (Dispose id) (dispose m id).0 (given_as (dispose m id).1)
unfolding dispose dropping
dispose_is m id other = dropped_is m (Dispose id) (settings m) (λ r. eqb r.id id) (grind (arith, common_steps))

-- a restore to the latest checkpoint
restore_latest_is : (m : State) (now : ℕ) (shape : Option (List ℕ)) → IsPlain m (Restore now target.Latest shape) (restore m target.Latest shape).0 (given_as (restore m target.Latest shape).1)
unfolding restore restarted drop
restore_latest_is m now shape =
    dropped_is m (Restore now target.Latest shape)
    (record { shape = unwrap_or shape m.shape; mode = Running; due = m.latest + gap m.opening.config; completed = None; failures = 0; base = m.base }) is_pending
    (grind (arith, common_steps))

-- a restore to a savepoint
restore_savepoint_is : (m : State) (now id : ℕ) (shape : Option (List ℕ)) → is_done_savepoint m id ≡ true
    → IsPlain m (Restore now (target.Savepoint id) shape) (restore m (target.Savepoint id) shape).0 (given_as (restore m (target.Savepoint id) shape).1)
unfolding restore restarted drop
restore_savepoint_is m now id shape there =
    dropped_is m (Restore now (target.Savepoint id) shape)
    (record { shape = unwrap_or shape m.shape; mode = Running; due = m.latest + gap m.opening.config; completed = None; failures = 0; base = Some id }) (rolled_back (target.Savepoint id))
    (grind (arith, common_steps))

-- a restore
restore_is : (m : State) (now : ℕ) (target : Target) (shape : Option (List ℕ)) → refusal m (Restore now target shape) ≡ None → (latest : ℕ)
    → IsPlain (record m { latest = latest }) (Restore now target shape) (restore (record m { latest = latest }) target shape).0 (given_as (restore (record m { latest = latest }) target shape).1)
restore_is m now target.Latest shape e latest = restore_latest_is (record m { latest = latest }) now shape
restore_is m now (target.Savepoint id) shape e latest = restore_savepoint_is (record m { latest = latest }) now id shape (accepted_restore_savepoint m now id shape e)

-- a cancel
cancel_is : (m : State) (call : Call) → IsPlain m call (cancel m).0 (given_as (cancel m).1)
unfolding cancel drop
cancel_is m call = dropped_is m call (record (settings m) { mode = Cancelled; base = None }) (cancelled m) (grind (arith, common_steps))

-- an acknowledgement that is taken registers its fresh files
pub registered_taken : (a : Answer) (fresh unknown : List ℕ) → is_ack_taken a ≡ true → registered_as a fresh unknown ≡ fresh
registered_taken a fresh unknown h3 = grind (arith, common_steps, both_ways)

-- an accepted acknowledgement, of a pending record or late
ack_is : (m : State) (now id : ℕ) (subtask : SubtaskId) (fresh reused : List ℕ) (o : Option Record) → IsAcceptedAck m now id subtask fresh reused → pending_of m.records id ≡ o
    → IsStep m (Ack now id subtask fresh reused) (ack (record m { latest = max now m.latest }) o subtask fresh reused)
unfolding ack
ack_is m now id subtask fresh reused None a e = record {
  opening = refl;
  config = inl refl;
  gives = inl (refl, refl);
  sound = λ _ s. late_is_sound (record m { latest = max now m.latest }) subtask fresh reused (moment_is_sound m now s a.moment) (distinct-from_test (fresh ++ reused) a.once);
  records = λ _. inl (record { records = refl; not_taken = refl });
  files = λ _. spread_settled (late_spreads (record m { latest = max now m.latest }) subtask fresh reused);
}
ack_is m now id subtask fresh reused (Some q) a e =
    let n : State = record m { latest = max now m.latest } in
    let k = acking m now id subtask fresh reused q a e in
    let i = acked_is n q subtask fresh reused (acking_at m (max now m.latest) q subtask fresh reused k) in
    let x : Stepped = ack n (Some q) subtask fresh reused in
    let is_taken : is_ack_taken x.1 ≡ true = acknowledged_is_taken n (with_ack q subtask fresh reused) in
    let its : q.id ≡ id = eqb-true q.id id (and_parts (is_pending q) (eqb q.id id) (IsIn-from_find (λ r. is_pending r && eqb r.id id) q m.records e).1).1 in
    record {
      opening = ap (λ (o : Opening). record o { config = m.opening.config }) i.opening;
      config = inl (ap (λ (o : Opening). o.config) i.opening);
      gives = inl (i.gives_none, i.next);
      sound = λ _ s. i.sound (moment_is_sound m now s a.moment);
      records = λ s. inr (record { q = q; its_id = its; acking = k; taken = i.taken (moment_is_sound m now s a.moment); is_taken = is_taken });
      files = λ s. rw (registered_taken x.1 fresh (filter (λ f. not (is_known m f)) fresh) is_taken) (spread_settled (i.spreads (moment_is_sound m now s a.moment)));
    }

-- a Show says something of a record, or refuses
show_is : (m : State) (id : ℕ) (o : Option Record) → IsStep m (Show id) (m, show o)
show_is m id None = plain_step (m, show None) (unchanged m (Show id)) (λ i. i) refl refl refl
show_is m id (Some r) = plain_step (m, show (Some r)) (unchanged m (Show id)) (λ i. i) refl refl refl

-- each accepted call
effect_is : (m : State) (call : Call) → refusal m call ≡ None → IsStep m call (effect (at_moment m (moment_of call)) call)
unfolding effect take_files dispose dropping
effect_is m (Tick now) e = let a = accepted_tick m now e in
    plain_step _ (plain_at (λ s. moment_is_sound m now s a.moment) (tick_is (record m { latest = max now m.latest }) (Tick now) a.running a.room)) (λ i. i) refl refl refl
effect_is m (Savepoint now) e = let a = accepted_savepoint m now e in
    plain_step _ (plain_at (λ s. moment_is_sound m now s (a.0).moment) (savepoint_is (record m { latest = max now m.latest }) (Savepoint now) (a.0).running (a.0).room a.1)) (λ i. i) refl refl refl
effect_is m (Ack now id subtask fresh reused) e = ack_is m now id subtask fresh reused (pending_of m.records id) (accepted_ack m now id subtask fresh reused e) refl
effect_is m (Decline now id subtask) e =
    plain_step _ (plain_at (λ s. moment_is_sound m now s (accepted_decline m now id subtask e))
    (decline_is (record m { latest = max now m.latest }) (Decline now id subtask) id (pending_of m.records id) refl)) (λ i. i) refl refl refl
effect_is m (Dispose id) e = plain_step _ (dispose_is m id (accepted_dispose m id e).1) (λ i. i) refl refl refl
effect_is m (Restore now target shape) e =
    plain_step _ (plain_at (λ s. moment_is_sound m now s (accepted_restore m now target shape e)) (restore_is m now target shape e (max now m.latest))) (λ i. i) refl refl refl
effect_is m (Cancel now) e = plain_step _ (plain_at (λ s. moment_is_sound m now s (accepted_cancel m now e)) (cancel_is (record m { latest = max now m.latest }) (Cancel now))) (λ i. i) refl refl refl
effect_is m (Take most) e =
    outbox_step m (Take most) (prelude.drop most m.waiting) (m.taken ++ take most m.waiting) (Done (reply.Taken (take most m.waiting))) refl (unmoved m None) (take_is_sound m most)
    (λ _. take_settled m most)
effect_is m (Deleted file) e =
    outbox_step m (Deleted file) m.waiting (without file m.taken) (Done (reply.Deleted file)) refl (unmoved m None) (deleted_is_sound m file)
    (λ s. deleted_settled m file s (accepted_deleted m file e))
effect_is m (Undeleted file) e =
    outbox_step m (Undeleted file) (m.waiting ++ file ∷ []) (without file m.taken) (Done (reply.Undeleted file)) refl (unmoved m None)
    (λ s. undeleted_is_sound m file s (accepted_undeleted m file e)) (λ s. undeleted_settled m file s (accepted_undeleted m file e))
effect_is m (Show id) e = show_is m id (record_of m id)
effect_is m (Trigger now) e = let a = accepted_trigger m now e in
    plain_step _ (plain_at (λ s. moment_is_sound m now s (a.0).moment) (trigger_is (record m { latest = max now m.latest }) (Trigger now) (a.0).running (a.0).room a.1)) (λ i. i) refl refl refl
effect_is m (Configure now c) e = let a = accepted_configure m now c e in
    plain_step _ (plain_at (λ s. moment_is_sound m now s a.0) (configure_is (record m { latest = max now m.latest }) now c a.1)) (λ i. i) refl refl refl
effect_is m (Count file) e = plain_step _ (unchanged m (Count file)) (λ i. i) refl refl refl

-- each call
pub step_is : (m : State) (call : Call) → IsStep m call (step m call)
step_is m call = step_by m call (λ x. IsStep m call x) (λ why _. refusal_step m call why) (effect_is m call)
