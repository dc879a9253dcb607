-- A sink in a loop that a fault stopped.
use Rattle.std.specs.Prelude.{◌≡◌, ℕ, false, List, []}
use Rattle.ckpt_ids.specs.{declared.subtask.SubtaskId.SubtaskId, Ordered.IsIn}
use Rattle.ckpt_ledger.specs.Ledgers.{nothing}
use Rattle.ckpt_once.specs.Jobs.{IsJob, Job, States}
use Rattle.ckpt_once.specs.Sinks.{Sink}
use Rattle.ckpt_task.specs.{Engines.begun, Faults.AreFailing, Faults.CountsAs, Runs.HasStopped, Runs.sink_waits}
use Rattle.ckpt_task.specs.Loops.{AreLooping, Looped, Loops}
use Rattle.ckpt_task.specs.SinkLoops.{AreSteps, HasSunkOver, Sinking, Step, around_sink, told_of}

-- As `HasSunkOver`, but a fault stopped the run that began at `last`.
pub record HasSunkUntilFault (job : Job) (from : States) (sink : Sink) (l : Looped) : Type 0 where
  pub first : Sinking
  pub last : Sinking
  pub steps : List Step
  pub task : first.at.task ≡ (begun job from).task sink.task
  pub held : first.at.held ≡ nothing
  pub output : first.at.output ≡ sink.output
  pub unused : first.deeds ≡ []
  pub unpublished : first.published ≡ []
  pub are_steps : AreSteps (job.program sink.task) steps first last
  pub begins : l.first ≡ around_sink first
  pub stopped : HasStopped (job.program sink.task) (sink_waits (job.program sink.task) last.at) (around_sink last) l.last
  pub ended_not : l.has_ended ≡ false

-- Loops without a fault, as which all that the tasks did counts. The sink among them published the same, and was told of the same records.
pub record CountAsSink (job : Job) (from : States) (sink : Sink) (e : Loops) (published told : List ℕ) : Type 0 where
  pub loops : Loops
  pub are_looping : AreLooping job from loops
  pub count : (t : SubtaskId) → IsIn t job.tasks → CountsAs (e.looped t) (loops.looped t)
  pub over : HasSunkOver job from sink (loops.looped sink.task)
  pub same_published : over.last.published ≡ published
  pub same_told : told_of over.steps ≡ told

-- So the laws of sinks in loops hold of it.
abbrev pub SinkFaultsCount : Job → States → Sink → Loops → Type 0
SinkFaultsCount job from sink e =
    IsJob job
    → AreFailing job from e
    → IsIn sink.task job.tasks
    → (until : HasSunkUntilFault job from sink (e.looped sink.task))
    → CountAsSink job from sink e until.last.published (told_of until.steps)
