-- The same of tasks that run in loops, and of the sinks among them.
use Rattle.std.specs.Prelude.{ℕ, List, [], ◌∷◌}
use Rattle.ckpt_ids.specs.{declared.ack.Acked.Acked, Ordered.IsIn}
use Rattle.ckpt_terms.specs.declared.machine.Machine.{Machine}
use Rattle.ckpt_logged.specs.Events.{Event}
use Rattle.ckpt_durable.specs.Groups.{Turn, World, synced, world}
use Rattle.ckpt_once.specs.Jobs.{IsJob, Job, restored, run_of_attempts, starts}
use Rattle.ckpt_once.specs.{Restarts.IsSeamless, Sinks.Sink, Sinks.written}
use Rattle.ckpt_task.specs.Deeds.{Acknowledges, told_in}
use Rattle.ckpt_task.specs.Loops.{AreLooping, Loops, LoopsAttempt, attempts_of, history_of}
use Rattle.ckpt_task.specs.SinkLoops.{AreGiven, HaveGiven, SinkAttempt, loops_of}
use Rattle.ckpt_chain.specs.{Since.acknowledgements_of, Told.NeverGoesBack, Told.WasRestored}

-- Each acknowledgement of a record that stands accepted in the log is one that a task of the job told.
abbrev pub AcceptsTold : ℕ → Machine → List Event → Job → Loops → Type 0
AcceptsTold id m events job e =
    (a : Acked) → IsIn a (acknowledgements_of id m events) → IsIn a.subtask job.tasks × IsIn (Acknowledges id) (told_in (e.looped a.subtask).last.deeds)

-- attempts of such tasks, one after the other
abbrev pub AreToldLoops : Machine → World → Job → List LoopsAttempt → Type 0
AreToldLoops m w job [] = Unit {0}
AreToldLoops m w job (one ∷ ones) =
    AreToldLoops m w job ones
    × AreLooping job (restored job (attempts_of ones)) one.loops
    × WasRestored (AcceptsTold one.record_id m (synced w) job one.loops) one.record_id one.earlier w job

abbrev pub ToldLoopsAreSeamless : Machine → List Turn → Job → List LoopsAttempt → Loops → Type 0
ToldLoopsAreSeamless m turns job ones e =
    let w : World = world m turns in
    IsJob job
    → NeverGoesBack m (synced w)
    → AreToldLoops m w job ones
    → AreLooping job (restored job (attempts_of ones)) e
    → IsSeamless job (attempts_of ones) (history_of e)

-- What the calls of a sink in a loop returned, over all restarts, is what it writes in that run up to the last restored record, each
-- element once.
abbrev pub ToldSinkGivesOnce : Machine → List Turn → Job → Sink → List SinkAttempt → Type 0
ToldSinkGivesOnce m turns job sink ks =
    let w : World = world m turns in
    IsJob job
    → NeverGoesBack m (synced w)
    → AreToldLoops m w job (loops_of ks)
    → IsIn sink.task job.tasks
    → (have : HaveGiven job sink ks)
    → AreGiven job sink ks have (written job (starts job) (run_of_attempts job (attempts_of (loops_of ks))) sink)
