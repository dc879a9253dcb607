-- A job over a coordinator that commits in groups, through any number of crashes: it acts on what it was told, and on nothing else.
use Rattle.std.specs.Prelude.{◌≡◌, ℕ, Bool, true, false, List, [], ◌∷◌, ◌++◌, Option, Some, None}
use Rattle.ckpt_ids.specs.{declared.call.Call.Call, declared.call.Call.TheVariants.Cancel, declared.call.Call.TheVariants.Restore, declared.reply.Answer.Answer}
use Rattle.ckpt_ids.specs.{declared.reply.Answer.TheVariants.Done, declared.reply.Choice.Choice, Ordered.IsIn, Records.Record, Shapes.subtasks}
use Rattle.ckpt_ids.specs.declared.call.Target.TheVariants as target
use Rattle.ckpt_ids.specs.declared.reply.Reply.TheVariants as reply
use Rattle.ckpt_model.specs.State.{is_checkpoint, record_of}
use Rattle.ckpt_model.specs.Laws.{Part, ack_of, id_of_choice}
use Rattle.ckpt_terms.specs.{declared.call.FencedAnswer.FencedAnswer, declared.call.FencedCall.FencedCall, declared.call.FencedCall.TheVariants.Make}
use Rattle.ckpt_terms.specs.{declared.call.FencedCall.TheVariants.Advance, declared.machine.Machine.Machine, Fencing.fenced_step, Fencing.restart, Machines.core_in}
use Rattle.ckpt_terms.specs.Machines.{machine_step}
use Rattle.ckpt_terms.specs.declared.call.FencedAnswer.TheVariants as answer
use Rattle.ckpt_terms.specs.declared.machine.Machine.TheVariants as machine
use Rattle.ckpt_logged.specs.Events.{Event, Fence, IsWell, Named, Plain, calls_in, event_step}
use Rattle.ckpt_durable.specs.Groups.{AreTurns, Receipt, Turn, World, synced, world}
use Rattle.ckpt_ledger.specs.Restarts.{AreTold, AttemptTold, attempts, over_restarts}
use Rattle.ckpt_once.specs.Choices.{Agree, HasNoChoice, Plan}
use Rattle.ckpt_once.specs.Jobs.{Attempt, History, IsHistory, IsJob, IsRun, Job, Run, network, restored, run_of_attempts, starts}
use Rattle.ckpt_once.specs.{Newest.NoneGoesBack, Restarts.IsSeamless}
use Rattle.ckpt_once.specs.Sinks.{Sink, published_before, written}
use Rattle.ckpt_chain.specs.Since.{AcknowledgesCuts}

-- WHAT WAS TOLD

-- the call of the coordinator that was asked, by itself, with a term, or as an advance
abbrev pub call_of : Event → Option Call
call_of (Plain call) = Some call
call_of (Named (Make term call)) = Some call
call_of (Named (Advance now term first)) = Some (restart now)
call_of event = None

-- the coordinator's answer, if the layer of names let the call through
abbrev pub its_answer : FencedAnswer → Option Answer
its_answer (answer.Made term its) = Some its
its_answer its = None

abbrev pub named_answered : Machine → FencedCall → Option Answer
named_answered (machine.Plain m) call = None
named_answered (machine.Fenced m) call = its_answer (fenced_step m call).1

-- what the coordinator answers to an event in this state
abbrev pub answered : Machine → Event → Option Answer
answered m (Plain call) = its_answer (machine_step m call).1
answered m (Named call) = named_answered m call
answered m (Fence first) = None

-- A receipt says that an acknowledgement completed this record, which is a checkpoint.
pub record Completes (r : Receipt) (id : ℕ) : Type 0 where
  pub event : Event
  pub entry : r.entry ≡ event ∷ []
  pub now : ℕ
  pub part : Part
  pub asked : call_of event ≡ Some (ack_of now id part)
  pub dropped : ℕ
  pub released : ℕ
  pub told : answered r.state event ≡ Some (Done (reply.AckCompleted dropped released))
  pub checkpoint : (one : Record) → record_of (core_in (event_step r.state event)) id ≡ Some one → is_checkpoint one ≡ true

-- A receipt says that the job was restored to the latest, which is this record.
pub record Restores (r : Receipt) (n : ℕ) : Type 0 where
  pub event : Event
  pub entry : r.entry ≡ event ∷ []
  pub now : ℕ
  pub shape : Option (List ℕ)
  pub asked : call_of event ≡ Some (Restore now target.Latest shape)
  pub chosen : Choice
  pub released : ℕ
  pub told : answered r.state event ≡ Some (Done (reply.Restored chosen released))
  pub is_this : id_of_choice chosen ≡ Some n

-- of these receipts one says that this record was completed
pub record WasToldOf (id : ℕ) (told : List Receipt) : Type 0 where
  pub before : List Receipt
  pub receipt : Receipt
  pub later : List Receipt
  pub place : told ≡ before ++ receipt ∷ later
  pub completes : Completes receipt id

-- RESTARTS

-- The program was told that the job was restored to record n. Its sinks were told of the records `earlier`: of each only after the program had
-- been told that it was completed, and before this restart. What is left to the engine: the record is one of the job's, and the premise on
-- its acknowledgements.
pub record WasRestored (Premise : Type 0) (n : ℕ) (earlier : List ℕ) (w : World) (job : Job) : Type 0 where
  pub before : List Receipt
  pub receipt : Receipt
  pub later : List Receipt
  pub place : w.told ≡ before ++ receipt ∷ later
  pub restores : Restores receipt n
  pub earlier_too : (k : ℕ) → IsIn k earlier → WasToldOf k before
  pub is_of_job : (one : Record) → record_of (core_in receipt.state) n ≡ Some one → subtasks one.shape ≡ job.tasks
  pub acknowledged : Premise

-- Attempts one after the other. Each acknowledgement of the record of each that stands accepted in the synced log is of a subtask that had cut it.
abbrev pub AreToldRestarts : Machine → World → Job → List Attempt → Type 0
AreToldRestarts m w job [] = Unit {0}
AreToldRestarts m w job (attempt ∷ attempts) =
    AreToldRestarts m w job attempts
    × IsHistory job (restored job attempts) attempt.history
    × WasRestored (AcknowledgesCuts attempt.record_id m (synced w) (network job (restored job attempts) attempt.history)) attempt.record_id attempt.earlier w job

-- In the synced log no call goes back: no accepted roll back to a savepoint, and no accepted cancel of a job that keeps no checkpoints.
abbrev pub NeverGoesBack : Machine → List Event → Type 0
NeverGoesBack m events = NoneGoesBack (core_in m) (calls_in m events)

-- a call that may go back: a roll back to a savepoint, or a cancel
abbrev pub is_way_back : Call → Bool
is_way_back (Restore now (target.Savepoint id) shape) = true
is_way_back (Cancel now) = true
is_way_back call = false

abbrev pub asks_way_back : Option Call → Bool
asks_way_back None = false
asks_way_back (Some call) = is_way_back call

-- So it is if nobody asked for one.
abbrev pub NobodyGoesBack : Machine → List Turn → Type 0
NobodyGoesBack m turns =
    let w : World = world m turns in
    ((event : Event) → IsIn event w.made → asks_way_back (call_of event) ≡ false) → NeverGoesBack m (synced w)

-- what is said of a job holds of turns from a sound state on
abbrev pub Soundly : {X Y : Type 0} → (Machine → List Turn → Job → X → Y → Type 0) → Machine → List Turn → Job → X → Y → Type 0
Soundly law m turns job x y = IsWell m → AreTurns turns → law m turns job x y

-- Then failures are invisible, crashes of the coordinator included: the states are those of one run without a failure, and each sink
-- has published a beginning of what it writes in that run, each element once.
abbrev pub ToldIsSeamless : Machine → List Turn → Job → List Attempt → History → Type 0
ToldIsSeamless m turns job attempts h =
    let w : World = world m turns in
    IsJob job → NeverGoesBack m (synced w) → AreToldRestarts m w job attempts → IsHistory job (restored job attempts) h → IsSeamless job attempts h

-- And if no task chooses, that is a beginning of what it writes in any run without a failure, or the other way round.
abbrev pub ToldExactlyOnce : Machine → List Turn → Job → Plan → List Attempt → Type 0
ToldExactlyOnce m turns job plan attempts =
    let w : World = world m turns in
    IsJob job
    → HasNoChoice job plan
    → NeverGoesBack m (synced w)
    → AreToldRestarts m w job attempts
    → (run : Run) (sink : Sink)
    → IsRun job (starts job) run
    → IsIn sink.task job.tasks
    → Agree (published_before job sink attempts) (written job (starts job) run sink)

-- What a sink's ledger publishes, over all restarts, is what that run writes up to the last restored record, each element once.
abbrev pub LedgerPublishesOnce : Machine → List Turn → Job → Sink → List AttemptTold → Type 0
LedgerPublishesOnce m turns job sink ones =
    let w : World = world m turns in
    IsJob job
    → NeverGoesBack m (synced w)
    → AreToldRestarts m w job (attempts ones)
    → IsIn sink.task job.tasks
    → AreTold job sink ones
    → over_restarts job sink ones ≡ written job (starts job) (run_of_attempts job (attempts ones)) sink
