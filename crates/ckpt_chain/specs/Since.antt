-- Records of a coordinator, with names or without, since a sound state: an opening, the state of an image, or one that calls led to.
use Rattle.std.specs.Prelude.{◌≡◌, ℕ, true, List, [], ◌∷◌, ◌++◌}
use Rattle.ckpt_ids.specs.{declared.ack.Acked.Acked, Ordered.IsIn, Records.Record, Shapes.subtasks}
use Rattle.ckpt_align.specs.Laws.{HasCut, IsConsistent, Network}
use Rattle.ckpt_cuts.specs.Laws.{AreChannelsOf}
use Rattle.ckpt_model.specs.{State.record_of, Laws.accepted_by, Laws.along}
use Rattle.ckpt_terms.specs.{declared.machine.Machine.Machine, Machines.core_in}
use Rattle.ckpt_logged.specs.Events.{AreEvents, Event, calls_in, events_replay}
use Rattle.ckpt_logged.specs.Promises.{acks_in}
use Rattle.ckpt_once.specs.Choices.{Agree, HasNoChoice, Plan}
use Rattle.ckpt_once.specs.Jobs.{Attempt, History, IsHistory, IsJob, IsRun, Job, Run, States, network, restored, starts}
use Rattle.ckpt_once.specs.Restarts.{IsSeamless}
use Rattle.ckpt_once.specs.Sinks.{AreLast, Sink, published_before, written}

-- The acknowledgements of a number: those that its record had at the beginning, if it was there, and those accepted since.
abbrev pub acknowledgements_of : ℕ → Machine → List Event → List Acked
acknowledgements_of id m events = acks_in (record_of (core_in m) id) ++ along (accepted_by id) (core_in m) (calls_in m events)

-- Left to the engine: each of them is of a subtask that has cut the record.
abbrev pub AcknowledgesCuts : ℕ → Machine → List Event → Network → Type 0
AcknowledgesCuts id m events w = (a : Acked) → IsIn a (acknowledgements_of id m events) → HasCut id (w.task a.subtask)

-- A live completed record is a consistent cut.
abbrev pub DoneIsConsistent : Machine → List Event → Network → Type 0
DoneIsConsistent m events w =
    (r : Record)
    → IsIn r (core_in (events_replay m events)).records
    → r.done ≡ true
    → AreChannelsOf r.shape w
    → AcknowledgesCuts r.id m events w
    → IsConsistent r.id w

-- After some events this record was live and done. Left to the engine: its tasks are those of the job, and each had cut the
-- record when it acknowledged it.
pub record WasDone (n : ℕ) (m : Machine) (job : Job) (from : States) (h : History) : Type 0 where
  pub events : List Event
  pub are_events : AreEvents events
  pub done_record : Record
  pub is_live : IsIn done_record (core_in (events_replay m events)).records
  pub is_done : done_record.done ≡ true
  pub is_this : done_record.id ≡ n
  pub is_of_job : subtasks done_record.shape ≡ job.tasks
  pub acknowledged : AcknowledgesCuts done_record.id m events (network job from h)

abbrev pub AreRestarts : Machine → Job → List Attempt → Type 0
AreRestarts m job [] = Unit {0}
AreRestarts m job (attempt ∷ attempts) =
    AreRestarts m job attempts
    × IsHistory job (restored job attempts) attempt.history
    × WasDone attempt.record_id m job (restored job attempts) attempt.history

-- Failures are invisible if each restart is to such a record, and no later one was completed before.
abbrev pub RestartsInvisible : Machine → Job → List Attempt → History → Type 0
RestartsInvisible m job attempts h = IsJob job → AreRestarts m job attempts → AreLast attempts → IsHistory job (restored job attempts) h → IsSeamless job attempts h

-- And if no task chooses between inputs, what a sink had published at the last restart agrees with what it writes in any run without a
-- failure: one is a beginning of the other.
abbrev pub ExactlyOnce : Machine → Job → Plan → List Attempt → Type 0
ExactlyOnce m job plan attempts =
    IsJob job
    → HasNoChoice job plan
    → AreRestarts m job attempts
    → AreLast attempts
    → (run : Run) (sink : Sink)
    → IsRun job (starts job) run
    → IsIn sink.task job.tasks
    → Agree (published_before job sink attempts) (written job (starts job) run sink)
