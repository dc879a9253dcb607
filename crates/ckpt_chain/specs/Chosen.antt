-- Restarts to the coordinator's choice, of tasks that run in loops, and what a sink among them gives.
use Rattle.std.specs.Prelude.{◌≡◌, ℕ, Some, List, [], ◌∷◌}
use Rattle.ckpt_ids.specs.{declared.call.Call.Call, Ordered.IsIn, Records.Record, Shapes.subtasks}
use Rattle.ckpt_ids.specs.declared.reply.Choice.TheVariants as choice
use Rattle.ckpt_model.specs.State.{Opening, choice_of, opened, record_of}
use Rattle.ckpt_model.specs.{Histories.replay, Laws.AreCalls}
use Rattle.ckpt_once.specs.Jobs.{IsJob, Job, restored, run_of_attempts, starts}
use Rattle.ckpt_once.specs.Restarts.{WasCompleted}
use Rattle.ckpt_once.specs.Sinks.{AreLast, Sink, written}
use Rattle.ckpt_task.specs.Loops.{AcceptsTold, AreLooping, AreLoopsAttempts, LoopsAttempt, attempts_of}
use Rattle.ckpt_task.specs.SinkLoops.{AreGiven, HaveGiven, SinkAttempt, loops_of}

-- the restart was to the coordinator's choice, after these calls
pub record LoopsChosen (o : Opening) (job : Job) (one : LoopsAttempt) : Type 0 where
  pub calls : List Call
  pub are_calls : AreCalls calls
  pub is_choice : choice_of (replay (opened o) calls) ≡ choice.Checkpoint one.record_id
  pub earlier_too : (n : ℕ) → IsIn n one.earlier → WasCompleted n o calls
  -- left to the engine
  pub is_of_job : (r : Record) → record_of (replay (opened o) calls) one.record_id ≡ Some r → subtasks r.shape ≡ job.tasks
  pub acknowledged : AcceptsTold o job one.loops one.record_id calls

abbrev pub AreChosenLoops : Opening → Job → List LoopsAttempt → Type 0
AreChosenLoops o job [] = Unit {0}
AreChosenLoops o job (one ∷ ones) = AreChosenLoops o job ones × AreLooping job (restored job (attempts_of ones)) one.loops × LoopsChosen o job one

-- Such restarts are to done records, and to the last that were completed.
abbrev pub ChosenLoopsAreLast : Opening → Job → List LoopsAttempt → Type 0
ChosenLoopsAreLast o job ones = IsJob job → AreChosenLoops o job ones → AreLoopsAttempts o job ones × AreLast (attempts_of ones)

-- So what the calls of a sink in a loop returned, over all restarts, is what it writes in one run without a failure up to the last restored
-- record, each element once.
abbrev pub ChosenSinkGivesOnce : Opening → Job → Sink → List SinkAttempt → Type 0
ChosenSinkGivesOnce o job sink ks =
    IsJob job
    → AreChosenLoops o job (loops_of ks)
    → IsIn sink.task job.tasks
    → (have : HaveGiven job sink ks)
    → AreGiven job sink ks have (written job (starts job) (run_of_attempts job (attempts_of (loops_of ks))) sink)
