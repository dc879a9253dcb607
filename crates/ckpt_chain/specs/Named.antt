-- The same of calls with names from an opening on, by way of the calls that reach the coordinator below the names.
use Rattle.std.specs.Prelude.{◌≡◌, ℕ, true, List, [], ◌∷◌}
use Rattle.ckpt_ids.specs.{Ordered.IsIn, Records.Record, Shapes.subtasks}
use Rattle.ckpt_align.specs.Laws.{IsConsistent, Network}
use Rattle.ckpt_cuts.specs.Laws.{AcknowledgesCuts, AreChannelsOf}
use Rattle.ckpt_model.specs.State.{Opening}
use Rattle.ckpt_terms.specs.{declared.call.FencedCall.FencedCall, FencedLaws.AreFencedCalls, FencedLaws.CanFence}
use Rattle.ckpt_terms.specs.Fencing.{core_calls, fenced, fenced_replay}
use Rattle.ckpt_once.specs.Choices.{Agree, HasNoChoice, Plan}
use Rattle.ckpt_once.specs.Jobs.{Attempt, History, IsHistory, IsJob, IsRun, Job, Run, States, network, restored, starts}
use Rattle.ckpt_once.specs.Restarts.{IsSeamless}
use Rattle.ckpt_once.specs.Sinks.{AreLast, Sink, published_before, written}

-- A live completed record is a consistent cut.
abbrev pub NamedIsConsistent : Opening → ℕ → List FencedCall → Network → Type 0
NamedIsConsistent o first calls w =
    (r : Record)
    → IsIn r (fenced_replay (fenced o first) calls).core.records
    → r.done ≡ true
    → AreChannelsOf r.shape w
    → AcknowledgesCuts r.id o (core_calls (fenced o first) calls) w
    → IsConsistent r.id w

-- so it is after each opening
abbrev pub ConsistentWithNames : Opening → ℕ → List FencedCall → Network → Type 0
ConsistentWithNames o first calls w = CanFence o first → AreFencedCalls calls → NamedIsConsistent o first calls w

-- After some calls this record was live and done. Left to the engine: its tasks are those of the job, and each had cut the
-- record when it acknowledged it.
pub record WasNamedDone (n : ℕ) (o : Opening) (first : ℕ) (job : Job) (from : States) (h : History) : Type 0 where
  pub calls : List FencedCall
  pub are_calls : AreFencedCalls calls
  pub done_record : Record
  pub is_live : IsIn done_record (fenced_replay (fenced o first) calls).core.records
  pub is_done : done_record.done ≡ true
  pub is_this : done_record.id ≡ n
  pub is_of_job : subtasks done_record.shape ≡ job.tasks
  pub acknowledged : AcknowledgesCuts done_record.id o (core_calls (fenced o first) calls) (network job from h)

abbrev pub AreNamedRestarts : Opening → ℕ → Job → List Attempt → Type 0
AreNamedRestarts o first job [] = Unit {0}
AreNamedRestarts o first job (attempt ∷ attempts) =
    AreNamedRestarts o first job attempts
    × IsHistory job (restored job attempts) attempt.history
    × WasNamedDone attempt.record_id o first job (restored job attempts) attempt.history

abbrev pub NamedRestartsInvisible : Opening → ℕ → Job → List Attempt → History → Type 0
NamedRestartsInvisible o first job attempts h =
    IsJob job → AreNamedRestarts o first job attempts → AreLast attempts → IsHistory job (restored job attempts) h → IsSeamless job attempts h

abbrev pub NamedExactlyOnce : Opening → ℕ → Job → Plan → List Attempt → Type 0
NamedExactlyOnce o first job plan attempts =
    IsJob job
    → HasNoChoice job plan
    → AreNamedRestarts o first job attempts
    → AreLast attempts
    → (run : Run) (sink : Sink)
    → IsRun job (starts job) run
    → IsIn sink.task job.tasks
    → Agree (published_before job sink attempts) (written job (starts job) run sink)
