-- What a call does to the state, and its answer.
use Rattle.std.specs.Prelude.{ℕ, ◌+◌, min, max, Bool, true, false, not, ◌&&◌, ◌||◌, nat_lt, ◌==◌, List, [], ◌∷◌, ◌++◌, map, filter, length, count_by, take, if◌then◌else◌, Option, Some, None, unwrap_or, ⊤}
use Rattle.std.specs.Prelude as prelude
use Rattle.ckpt_ids.specs.declared.subtask.SubtaskId.{SubtaskId}
use Rattle.ckpt_ids.specs.declared.numbers.Kind.{Kind}
use Rattle.ckpt_ids.specs.declared.numbers.Kind.TheVariants as kind
use Rattle.ckpt_ids.specs.declared.call.Target.{Target}
use Rattle.ckpt_ids.specs.declared.call.Target.TheVariants as target
use Rattle.ckpt_ids.specs.declared.call.Call.{Call}
use Rattle.ckpt_ids.specs.declared.call.Call.TheVariants.{Tick, Savepoint, Ack, Decline, Dispose, Restore, Cancel, Take, Deleted, Undeleted, Show, Count, Trigger, Configure}
use Rattle.ckpt_ids.specs.declared.reply.TickEnd.TheVariants as end
use Rattle.ckpt_ids.specs.declared.reply.Reply.{Reply}
use Rattle.ckpt_ids.specs.declared.reply.Reply.TheVariants as reply
use Rattle.ckpt_ids.specs.declared.reply.Answer.{Answer}
use Rattle.ckpt_ids.specs.declared.reply.Answer.TheVariants.{Done, Refused}
use Rattle.ckpt_ids.specs.declared.reply.Refusal.{Refusal}
use Rattle.ckpt_ids.specs.declared.reply.Refusal.TheVariants.{NoSuchRecord}
use Rattle.ckpt_ids.specs.Ascending.{ascending}
use Rattle.ckpt_ids.specs.Configuration.{Configuration}
use Rattle.ckpt_ids.specs.Records.{Record, acknowledged, uses, count, missing, metadata_of}
use Rattle.ckpt_rules.specs.declared.hold.Hold.{Hold}
use Rattle.ckpt_rules.specs.declared.hold.Hold.TheVariants.{Interval, AtOnce, Pause, Go}
use Rattle.ckpt_rules.specs.Trigger.{gap, hold}
use Rattle.ckpt_model.specs.declared.mode.Mode.TheVariants.{Running, Failed, Cancelled}
use Rattle.ckpt_model.specs.State.{State, is_pending, is_checkpoint, is_done_checkpoint, record_of, is_known, drop, released_by, is_expired, is_subsumed, is_surplus, choice_of, pins_now}
use Rattle.ckpt_model.specs.Refusals.{refusal, moment_of, pending_of}
pub use Rattle.ckpt_model.specs.Refusals.{pending_checkpoints}

abbrev pub Stepped : Type 0
Stepped = State × Answer

abbrev pub with_records : State → List Record → State
with_records m records = record m { records = records }

abbrev pub dropped_by : State → (Record → Bool) → ℕ
dropped_by m dropped = count_by dropped m.records

-- a pending record with the next number, started now
unfoldable pub triggered : State → Kind → State
triggered m kind = record m {
  next = m.next + 1;
  records = m.records ++ record { id = m.next; kind = kind; done = false; shape = m.shape; started = m.latest; acks = []; pins = pins_now m } ∷ [];
}

-- Source: Configuration, execution.checkpointing.tolerable-failed-checkpoints.
unfoldable pub failed_over : State → State
failed_over m = record (drop m is_pending None) { mode = Failed }

unfoldable pub start_or_hold : State → ℕ → Hold → Stepped
start_or_hold m expired Interval = (m, Done (reply.Ticked expired end.HeldInterval))
start_or_hold m expired AtOnce = (m, Done (reply.Ticked expired end.HeldAtOnce))
start_or_hold m expired Pause = (m, Done (reply.Ticked expired end.HeldPause))
start_or_hold m expired Go =
    (record (triggered m kind.Checkpoint) { due = m.latest + gap m.opening.config }, Done (reply.Ticked expired (end.Triggered m.next)))

-- Expiry comes first, then the next checkpoint if nothing holds it back. m has the moment already, and the failures
unfoldable pub after_expiry : State → ℕ → Stepped
after_expiry m expired = start_or_hold m expired (hold m.opening.config m.due m.completed m.latest (pending_checkpoints m))

unfoldable pub tick : State → Stepped
tick m =
    let expired : Record → Bool = is_expired m m.latest in
    let late : ℕ = count_by (λ r. expired r && is_checkpoint r) m.records in
    let counted : State = record m { failures = m.failures + late } in
    if nat_lt 0 late && nat_lt m.opening.config.tolerable (m.failures + late)
    then (failed_over counted, Done (reply.Ticked (dropped_by m expired) end.Failed))
    else after_expiry (drop counted expired None) (dropped_by m expired)

abbrev pub replaced : List Record → Record → List Record
replaced records r = map (λ old. if old.id == r.id then r else old) records

-- what a completion drops: of a savepoint nothing, of a checkpoint what it subsumes and what is past the number retained
abbrev pub superseded : State → Record → Record → Bool
superseded m r s = is_checkpoint r && (is_subsumed r.id s || is_surplus m s)

abbrev pub cleared : State → Record → State
cleared m r = if is_checkpoint r then record m { failures = 0; completed = Some m.latest; base = None } else m

-- m has r as done
unfoldable pub completed_with : State → Record → Stepped
completed_with m r = (
  cleared (drop m (superseded m r) (Some r.id)) r,
  Done (reply.AckCompleted (dropped_by m (superseded m r)) (length (released_by m (superseded m r) (Some r.id)))),
)

unfoldable pub acknowledged_in : State → Record → Stepped
acknowledged_in m r =
    if missing r == 0
    then completed_with (with_records m (replaced m.records (record r { done = true }))) (record r { done = true })
    else (with_records m (replaced m.records r), Done (reply.AckPending (missing r)))

unfoldable pub ack : State → Option Record → SubtaskId → List ℕ → List ℕ → Stepped
ack m (Some r) subtask fresh reused = acknowledged_in m (acknowledged r subtask (ascending (fresh ++ reused)))
ack m None subtask fresh reused =
    let unknown : List ℕ = filter (λ f. not (is_known m f)) fresh in
    (record m { waiting = m.waiting ++ unknown }, Done (reply.AckLate (length unknown)))

unfoldable pub dropping : State → (Record → Bool) → (ℕ → Reply) → Stepped
dropping m dropped say = (drop m dropped None, Done (say (length (released_by m dropped None))))

-- the failures after this record is declined
abbrev pub failures_with : State → Record → ℕ
failures_with m r = if is_checkpoint r then m.failures + 1 else m.failures

-- whether the job fails over when this record is declined
abbrev pub fails_the_job : State → Record → Bool
fails_the_job m r = is_checkpoint r && nat_lt m.opening.config.tolerable (failures_with m r)

unfoldable pub decline_pending : State → Record → Stepped
decline_pending m r =
    let counted : State = record m { failures = failures_with m r } in
    if fails_the_job m r
    then (failed_over counted, Done (reply.DeclineFailed (length (released_by m is_pending None))))
    else dropping counted (λ s. s.id == r.id) reply.DeclineAborted

unfoldable pub decline : State → Option Record → Stepped
decline m (Some r) = decline_pending m r
decline m None = (m, Done reply.DeclineLate)

-- Source: Savepoints: the user owns them and disposes of them.
unfoldable pub dispose : State → ℕ → Stepped
dispose m id = dropping m (λ r. r.id == id) reply.Disposed

-- Source: Checkpoints: after a failure the job restarts from the latest completed checkpoint, or afresh.
unfoldable pub restarted : State → State
restarted m = record m { mode = Running; failures = 0; due = m.latest + gap m.opening.config; completed = None }

abbrev pub rolled_back : Target → Record → Bool
rolled_back target.Latest r = is_pending r
rolled_back (target.Savepoint id) r = is_pending r || is_done_checkpoint r

abbrev pub with_base : State → Target → State
with_base m target.Latest = m
with_base m (target.Savepoint id) = record m { base = Some id }

unfoldable pub restore : State → Target → Option (List ℕ) → Stepped
restore m target shape =
    let after : State = restarted (with_base (record (drop m (rolled_back target) None) { shape = unwrap_or shape m.shape }) target) in
    (after, Done (reply.Restored (choice_of after) (length (released_by m (rolled_back target) None))))

-- Source: Checkpoints, RETAIN_ON_CANCELLATION and DELETE_ON_CANCELLATION.
abbrev pub cancelled : State → Record → Bool
cancelled m r = is_pending r || (is_done_checkpoint r && not m.opening.config.keep_on_cancel)

unfoldable pub cancel : State → Stepped
cancel m = (
  record (drop m (cancelled m) None) { base = None; mode = Cancelled },
  Done (reply.Cancelled (dropped_by m (cancelled m)) (length (released_by m (cancelled m) None))),
)

-- The settings are these from now on. The next checkpoint is due when it was, and at the latest one new interval from now.
-- The failures in a row count on, as many as are tolerated now. This is the project's own rule.
unfoldable pub with_config : State → Configuration → State
with_config m c = record m {
  opening = record m.opening { config = c };
  due = min m.due (m.latest + gap c);
  failures = min m.failures c.tolerable;
}

-- done checkpoints past the new number retained are dropped at once; nothing expires or is triggered before the next tick
unfoldable pub configure : State → Configuration → Stepped
configure m c =
    let n : State = with_config m c in
    (drop n (is_surplus n) None, Done (reply.Configured (dropped_by n (is_surplus n)) (length (released_by n (is_surplus n) None))))

-- the outbox hands files to a caller that deletes them
unfoldable pub take_files : State → ℕ → Stepped
take_files m n = (record m { waiting = prelude.drop n m.waiting; taken = m.taken ++ take n m.waiting }, Done (reply.Taken (take n m.waiting)))

abbrev pub without : ℕ → List ℕ → List ℕ
without f xs = filter (λ g. not (g == f)) xs

abbrev pub show : Option Record → Answer
show None = Refused NoSuchRecord
show (Some r) = Done (reply.Shown (metadata_of r))

-- What an accepted call does. m has the moment of the call already.
unfoldable pub effect : State → Call → Stepped
effect m (Tick now) = tick m
effect m (Savepoint now) = (triggered m kind.Savepoint, Done (reply.SavepointTriggered m.next))
effect m (Ack now id subtask fresh reused) = ack m (pending_of m.records id) subtask fresh reused
effect m (Decline now id subtask) = decline m (pending_of m.records id)
effect m (Dispose id) = dispose m id
effect m (Restore now target shape) = restore m target shape
effect m (Cancel now) = cancel m
effect m (Take most) = take_files m most
effect m (Deleted file) = (record m { taken = without file m.taken }, Done (reply.Deleted file))
effect m (Undeleted file) = (record m { taken = without file m.taken; waiting = m.waiting ++ file ∷ [] }, Done (reply.Undeleted file))
effect m (Show id) = (m, show (record_of m id))
effect m (Count file) = (m, Done (reply.Counted file (count (uses m.records) file)))
effect m (Trigger now) = start_or_hold m 0 Go
effect m (Configure now config) = configure m config

abbrev pub at_moment : State → Option ℕ → State
at_moment m None = m
at_moment m (Some now) = record m { latest = max now m.latest }

abbrev pub unless_refused : State → Call → Option Refusal → Stepped
unless_refused m call (Some why) = (m, Refused why)
unless_refused m call None = effect (at_moment m (moment_of call)) call

unfoldable pub step : State → Call → Stepped
step m call = unless_refused m call (refusal m call)

-- what a proof unfolds to compute a step
unfoldable pub step_computes : ⊤
unfolding drop choice_of pins_now refusal triggered failed_over start_or_hold after_expiry tick completed_with acknowledged_in ack dropping decline_pending decline dispose restarted restore cancel with_config configure take_files effect step
step_computes = tt
