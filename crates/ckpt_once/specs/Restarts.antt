-- Restarts to the records of a coordinator.
use Rattle.std.specs.Prelude.{◌≡◌, ℕ, Some, true, List, [], ◌∷◌, ◌++◌}
use Rattle.ckpt_ids.specs.{declared.call.Call.Call, declared.subtask.SubtaskId.SubtaskId, Ordered.IsIn, Records.Record, Shapes.subtasks}
use Rattle.ckpt_ids.specs.declared.reply.Choice.TheVariants as choice
use Rattle.ckpt_model.specs.State.{Opening, choice_of, is_checkpoint, opened, record_of}
use Rattle.ckpt_model.specs.{Steps.step, Interleavings.is_completing, Histories.replay}
use Rattle.ckpt_model.specs.Laws.{AreCalls, Part, ack_of}
use Rattle.ckpt_cuts.specs.Laws.{AcknowledgesCuts}
use Rattle.ckpt_once.specs.Choices.{Agree, HasNoChoice, Plan}
use Rattle.ckpt_once.specs.Newest.{NoneGoesBack}
use Rattle.ckpt_once.specs.Jobs.{Attempt, History, IsHistory, IsJob, IsPrefix, IsQuiet, IsRun, Job, Run, States, network, restored, starts, states_after, states_in}
use Rattle.ckpt_once.specs.Sinks.{AreLast, Sink, published_before, published_in, written}

-- After some calls this record was live and done. Left to the engine: its tasks are those of the job (an
-- equation of lists: a job lists them as the shape does), and each had cut the record when it acknowledged it.
pub record WasDone (n : ℕ) (o : Opening) (job : Job) (from : States) (h : History) : Type 0 where
  pub calls : List Call
  pub are_calls : AreCalls calls
  pub done_record : Record
  pub is_live : IsIn done_record (replay (opened o) calls).records
  pub is_done : done_record.done ≡ true
  pub is_this : done_record.id ≡ n
  pub is_of_job : subtasks done_record.shape ≡ job.tasks
  pub acknowledged : AcknowledgesCuts done_record.id o calls (network job from h)

abbrev pub AreRestarts : Opening → Job → List Attempt → Type 0
AreRestarts o job [] = Unit {0}
AreRestarts o job (attempt ∷ attempts) =
    AreRestarts o job attempts
    × IsHistory job (restored job attempts) attempt.history
    × WasDone attempt.record_id o job (restored job attempts) attempt.history

-- these calls completed this checkpoint, and none went back since
pub record WasCompleted (id : ℕ) (o : Opening) (calls : List Call) : Type 0 where
  pub before : List Call
  pub now : ℕ
  pub part : Part
  pub later : List Call
  pub are_these : calls ≡ before ++ ack_of now id part ∷ later
  pub completing : is_completing (step (replay (opened o) before) (ack_of now id part)).1 ≡ true
  pub checkpoint : (r : Record) → record_of (step (replay (opened o) before) (ack_of now id part)).0 id ≡ Some r → is_checkpoint r ≡ true
  pub none_back : NoneGoesBack (step (replay (opened o) before) (ack_of now id part)).0 later

-- the restart was to the coordinator's choice, after these calls
pub record WasChosen (attempt : Attempt) (o : Opening) (job : Job) (from : States) : Type 0 where
  pub calls : List Call
  pub are_calls : AreCalls calls
  pub is_choice : choice_of (replay (opened o) calls) ≡ choice.Checkpoint attempt.record_id
  pub earlier_too : (m : ℕ) → IsIn m attempt.earlier → WasCompleted m o calls
  -- left to the engine
  pub is_of_job : (r : Record) → record_of (replay (opened o) calls) attempt.record_id ≡ Some r → subtasks r.shape ≡ job.tasks
  pub acknowledged : AcknowledgesCuts attempt.record_id o calls (network job from attempt.history)

abbrev pub AreChosen : Opening → Job → List Attempt → Type 0
AreChosen o job [] = Unit {0}
AreChosen o job (attempt ∷ attempts) =
    AreChosen o job attempts
    × IsHistory job (restored job attempts) attempt.history
    × WasChosen attempt o job (restored job attempts)

-- A restart to the coordinator's choice is one to a done record, and to the last that was completed.
abbrev pub ChosenAreLast : Opening → Job → List Attempt → Type 0
ChosenAreLast o job attempts = AreChosen o job attempts → AreRestarts o job attempts × AreLast attempts

-- One run of the job from its start, without a failure, that has the same states, and writes what was published.
pub record IsSeamless (job : Job) (attempts : List Attempt) (h : History) : Type 0 where
  -- up to the record that the job was restored to last, and since then
  pub first : Run
  pub later : Run
  pub is_run : IsRun job (starts job) (later ++ first)
  pub is_quiet : IsQuiet job (starts job) first
  pub has_states : (t : SubtaskId) → states_in job (restored job attempts) h t ≡ states_after job (starts job) (later ++ first) t
  -- each element that it wrote up to the record was published, once
  pub was_published : (sink : Sink) → IsIn sink.task job.tasks → published_before job sink attempts ≡ written job (starts job) first sink
  -- and nothing that it does not write, in this order, whichever records were completed since
  pub is_published : (sink : Sink) (completed : List ℕ) → IsIn sink.task job.tasks
      → IsPrefix (published_before job sink attempts ++ published_in job (restored job attempts) h sink completed) (written job (starts job) (later ++ first) sink)

-- There is such a run if each restart is to a done record of the coordinator, and no later one was completed before.
abbrev pub RestartsInvisible : Opening → Job → List Attempt → History → Type 0
RestartsInvisible o job attempts h = IsJob job → AreRestarts o job attempts → AreLast attempts → IsHistory job (restored job attempts) h → IsSeamless job attempts h

-- And if no task chooses between inputs, each sink has published, each element once, a beginning of the one output of the
-- job, which is what it writes in any run without a failure, as far as that has come.
abbrev pub ExactlyOnce : Opening → Job → Plan → List Attempt → Type 0
ExactlyOnce o job plan attempts =
    IsJob job
    → HasNoChoice job plan
    → AreRestarts o job attempts
    → AreLast attempts
    → (run : Run) (sink : Sink)
    → IsRun job (starts job) run
    → IsIn sink.task job.tasks
    → Agree (published_before job sink attempts) (written job (starts job) run sink)
