-- Restarts from such records of a job whose recorders say when tasks take their snapshots, and whose sinks publish what they were told of.
use Rattle.std.specs.Prelude.{◌≡◌, ℕ, ◌<◌, ◌≤◌, List, [], ◌∷◌, ◌++◌, if◌then◌else◌, Option, Some, None}
use Rattle.ckpt_ids.specs.{declared.subtask.SubtaskId.SubtaskId, Ordered.IsIn, Shapes.same_subtask}
use Rattle.ckpt_align.specs.Laws.{Channel}
use Rattle.ckpt_once.specs.Programs.{on_output, with_one}
use Rattle.ckpt_once.specs.Jobs.{IsJob, IsPrefix, IsRun, Job, States, put_on, starts, states_after, taken_off}
use Rattle.ckpt_once.specs.Sinks.{Sink, Transaction, published, written}
use Rattle.ckpt_unaligned.specs.Recording.{Recorder, opened}
use Rattle.ckpt_unaligned.specs.Histories.{Action, after, answer_to, snap_as}
use Rattle.ckpt_unaligned.specs.Laws.{HasPart, IsInOrder, Network, part_in, sent_before}
use Rattle.ckpt_other_cuts.specs.Restarted.{Begin, Doing, Doings, IsRunFrom, Moves, Snaps, Stretch, begin_after, kept_moves, moves, run_of_stretches}

-- SINKS

-- what a sink has sealed at its snapshots, and what it wrote since the last of them
pub record Sealing : Type 0 where
  pub sealed : List Transaction
  pub open_one : List ℕ

abbrev pub sealed_more : Job → States → Sink → Doings → Doing → Sealing → Sealing
sealed_more job from sink before (Moves move) s = record {
  sealed = s.sealed;
  open_one = s.open_one ++ on_output sink.output ((job.program sink.task).emits (states_after job from (moves before) sink.task) move);
}
sealed_more job from sink before (Snaps id) s = record { sealed = s.sealed ++ record { id = id; content = s.open_one } ∷ []; open_one = [] }

abbrev pub sealing : Job → States → Sink → Doings → Sealing
sealing job from sink [] = record { sealed = []; open_one = [] }
sealing job from sink (it ∷ before) = if same_subtask it.task sink.task then sealed_more job from sink before it.what (sealing job from sink before) else sealing job from sink before

-- When a record is completed, a sink publishes what it sealed up to it.
abbrev pub published_in : Job → States → Doings → Sink → List ℕ → List ℕ
published_in job from doings sink completed = published completed (sealing job from sink doings).sealed

-- ATTEMPTS

-- What a job did between two starts and the record from which it then began, what its recorders were told meanwhile, and the
-- records of which its sinks had been told before.
pub record Attempt : Type 0 where
  pub stretch : Stretch
  pub network : Network
  pub earlier : List ℕ

abbrev pub stretches : List Attempt → List Stretch
stretches [] = []
stretches (it ∷ its) = it.stretch ∷ stretches its

abbrev pub published_before : Job → Sink → List Attempt → List ℕ
published_before job sink [] = []
published_before job sink (it ∷ its) =
    published_before job sink its ++ published_in job (begin_after job (stretches its)).states it.stretch.doings sink (it.earlier ++ it.stretch.record_id ∷ [])

-- the records for which a task took its snapshot, as it did and as its recorder said, the first first
abbrev pub snap_of : Doing → Option ℕ
snap_of (Moves move) = None
snap_of (Snaps id) = Some id

abbrev pub snaps_in : SubtaskId → Doings → List ℕ
snaps_in t [] = []
snaps_in t (it ∷ before) = if same_subtask it.task t then snaps_in t before ++ with_one (snap_of it.what) [] else snaps_in t before

abbrev pub snaps_said : Recorder → List Action → List ℕ
snaps_said r [] = []
snaps_said r (action ∷ actions) = with_one (snap_as (answer_to r action)) (snaps_said (after r action) actions)

-- Left to the engine: channels keep their order, and give what the record had of them first; a task takes a snapshot when its recorder says so;
-- what it sent before that is what its moves emit; and the record has of a channel the task's part of it, without what the task had
-- processed at its snapshot.
pub record WasRecorded (job : Job) (b : Begin) (it : Attempt) : Type 0 where
  pub is_run : IsRunFrom job b (moves it.stretch.doings)
  pub is_connected : (c : Channel) → IsIn c job.channels → c.input < (it.network.task c.receiver).inputs
  pub in_order : (c : Channel) → IsIn c job.channels → IsInOrder it.network c
  pub gives_first : (c : Channel) → IsIn c job.channels → it.network.first c ≡ b.first c
  pub snaps : (t : SubtaskId) → IsIn t job.tasks → snaps_in t it.stretch.doings ≡ snaps_said (opened (it.network.task t).inputs) (it.network.task t).actions
  pub sends : (c : Channel) → IsIn c job.channels → sent_before it.stretch.record_id it.network c ≡ put_on job b.states (kept_moves it.stretch) c
  pub takes : (c : Channel) → IsIn c job.channels → (its : HasPart it.stretch.record_id (it.network.task c.receiver))
      → part_in it.stretch.record_id it.network c its ≡ taken_off (kept_moves it.stretch) c ++ it.stretch.part c

-- Each task of the job had its part of the record, and its sinks had been told of no later one.
pub record IsResume (job : Job) (b : Begin) (it : Attempt) : Type 0 where
  pub recorded : WasRecorded job b it
  pub has_parts : (t : SubtaskId) → IsIn t job.tasks → HasPart it.stretch.record_id (it.network.task t)
  pub none_later : (k : ℕ) → IsIn k it.earlier → k ≤ it.stretch.record_id

abbrev pub AreResumes : Job → List Attempt → Type 0
AreResumes job [] = Unit {0}
AreResumes job (it ∷ its) = AreResumes job its × IsResume job (begin_after job (stretches its)) it

-- One run of the job from its start, without a failure: what it did since the last restart, behind `past`.
pub record IsSeamless (job : Job) (its : List Attempt) (doings : Doings) : Type 0 where
  pub is_run : IsRun job (starts job) (moves doings ++ run_of_stretches (stretches its))
  pub has_states : (t : SubtaskId)
      → states_after job (begin_after job (stretches its)).states (moves doings) t ≡ states_after job (starts job) (moves doings ++ run_of_stretches (stretches its)) t
  -- at the last restart the channels had exactly what was on the way
  pub has_channels : (c : Channel) → IsIn c job.channels
      → put_on job (starts job) (run_of_stretches (stretches its)) c ≡ taken_off (run_of_stretches (stretches its)) c ++ (begin_after job (stretches its)).first c
  -- each element that a sink wrote up to the record was published, once
  pub was_published : (sink : Sink) → IsIn sink.task job.tasks → published_before job sink its ≡ written job (starts job) (run_of_stretches (stretches its)) sink
  -- and nothing that it does not write, in this order, whichever records were completed since
  pub is_published : (sink : Sink) (completed : List ℕ) → IsIn sink.task job.tasks
      → IsPrefix (published_before job sink its ++ published_in job (begin_after job (stretches its)).states doings sink completed)
      (written job (starts job) (moves doings ++ run_of_stretches (stretches its)) sink)

abbrev pub ResumesInvisible : Job → List Attempt → Doings → Type 0
ResumesInvisible job its doings = IsJob job → AreResumes job its → IsRunFrom job (begin_after job (stretches its)) (moves doings) → IsSeamless job its doings
