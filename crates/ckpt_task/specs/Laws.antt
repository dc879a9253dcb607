-- What a job of such tasks does is what `ckpt_once` speaks of.
use Rattle.std.specs.Prelude.{◌≡◌, ℕ, true, List, [], ◌∷◌, ◌++◌}
use Rattle.ckpt_ids.specs.{declared.ack.Acked.Acked, declared.call.Call.Call, declared.subtask.SubtaskId.SubtaskId, Ordered.IsIn, Records.Record, Shapes.subtasks}
use Rattle.ckpt_align.specs.Alignment.{opened}
use Rattle.ckpt_align.specs.Laws.{Channel, HasCut, sent_on, taken_from}
use Rattle.ckpt_model.specs.{State.Opening, Histories.replay}
use Rattle.ckpt_model.specs.State as model
use Rattle.ckpt_model.specs.Laws.{AreCalls, accepted_by, along}
use Rattle.ckpt_once.specs.{Programs.aligned, Restarts.IsSeamless, Sinks.AreLast}
use Rattle.ckpt_once.specs.Jobs.{Attempt, History, IsHistory, IsJob, Job, States, network, of, restored, snapshots, states_in}
use Rattle.ckpt_task.specs.Engines.{IsWorking, Snapped, engine, snapped}

-- What the engine does is a history. Each task is where it is there, and each channel has what was put on it and not
-- taken yet.
pub record IsHistoryOf (job : Job) (from : States) (h : History) : Type 0 where
  pub is_history : IsHistory job from h
  pub states : (t : SubtaskId) → ((engine job from h).task t).state ≡ states_in job from h t
  pub aligners : (t : SubtaskId) → ((engine job from h).task t).alignment ≡ aligned (opened (job.inputs t)) (of t h)
  pub on_channels : (c : Channel) → IsIn c job.channels → sent_on (network job from h) c ≡ taken_from (network job from h) c ++ (engine job from h).on c

abbrev pub MakesHistory : Job → States → History → Type 0
MakesHistory job from h = IsWorking job from h → IsHistoryOf job from h

-- A snapshot that a task took is that of the law: the task has cut its record, and it is its state before that cut.
abbrev pub SnapsAtCut : Job → States → History → SubtaskId → Snapped → Type 0
SnapsAtCut job from h t one =
    IsWorking job from h
    → IsIn one (snapped job from h t)
    → HasCut one.id ((network job from h).task t) × (one.state ≡ snapshots one.id job from h t)

-- Each acknowledgement that was accepted is of a record whose snapshot its task took. An engine acknowledges so if it
-- makes the call with the `Cut` of a turn of the task.
abbrev pub AcknowledgesSnapped : Opening → Job → States → History → ℕ → List Call → Type 0
AcknowledgesSnapped o job from h id calls =
    (a : Acked) → IsIn a (along (accepted_by id) (model.opened o) calls) → (one : Snapped) × IsIn one (snapped job from h a.subtask) × (one.id ≡ id)

-- After some calls this record was live and done, and it is one of this job. Its acknowledgements are as the premise says.
pub record WasCompletedBy (Premise : ℕ → List Call → Type 0) (n : ℕ) (o : Opening) (job : Job) : Type 0 where
  pub calls : List Call
  pub are_calls : AreCalls calls
  pub done_record : Record
  pub is_live : IsIn done_record (replay (model.opened o) calls).records
  pub is_done : done_record.done ≡ true
  pub is_this : done_record.id ≡ n
  pub is_of_job : subtasks done_record.shape ≡ job.tasks
  pub acknowledged : Premise done_record.id calls

-- Engines one after the other: each but the first starts from the snapshots of a done record.
abbrev pub AreEngines : Opening → Job → List Attempt → Type 0
AreEngines o job [] = Unit {0}
AreEngines o job (attempt ∷ attempts) =
    AreEngines o job attempts
    × IsWorking job (restored job attempts) attempt.history
    × WasCompletedBy (AcknowledgesSnapped o job (restored job attempts) attempt.history) attempt.record_id o job

-- Their failures are invisible, in the states of the tasks and in what sinks publish.
abbrev pub AreSeamless : Opening → Job → List Attempt → History → Type 0
AreSeamless o job attempts h = IsJob job → AreEngines o job attempts → AreLast attempts → IsWorking job (restored job attempts) h → IsSeamless job attempts h
