-- All in one: tasks in loops, each in the term that it was started with, over a coordinator whose calls outlive crashes.
use Rattle.std.specs.Prelude.{ℕ, List, [], ◌∷◌}
use Rattle.ckpt_ids.specs.{declared.subtask.SubtaskId.SubtaskId, Ordered.IsIn}
use Rattle.ckpt_terms.specs.declared.machine.Machine.{Machine}
use Rattle.ckpt_logged.specs.Events.{Event}
use Rattle.ckpt_durable.specs.Groups.{Turn, World, synced, world}
use Rattle.ckpt_once.specs.Jobs.{IsJob, Job, restored}
use Rattle.ckpt_once.specs.Restarts.{IsSeamless}
use Rattle.ckpt_task.specs.Deeds.{Acknowledges, told_in}
use Rattle.ckpt_task.specs.Loops.{AreLooping, Loops, LoopsAttempt, attempts_of, history_of}
use Rattle.ckpt_chain.specs.{Terms.IsAskedInTerm, Told.NeverGoesBack, Told.WasRestored}

-- a task of the job that told the coordinator that it acknowledges the record
abbrev pub HasToldOf : ℕ → Job → Loops → SubtaskId → Type 0
HasToldOf n job e s = IsIn s job.tasks × IsIn (Acknowledges n) (told_in (e.looped s).last.deeds)

-- Each acknowledgement of the record that was asked for in the term of its trigger is one that such a task told.
abbrev pub TellsInTerm : ℕ → Machine → List Event → Job → Loops → Type 0
TellsInTerm n m log job e = IsAskedInTerm (HasToldOf n job e) n m log

abbrev pub AreTermLoops : Machine → World → Job → List LoopsAttempt → Type 0
AreTermLoops m w job [] = Unit {0}
AreTermLoops m w job (one ∷ ones) =
    AreTermLoops m w job ones
    × AreLooping job (restored job (attempts_of ones)) one.loops
    × WasRestored (TellsInTerm one.record_id m (synced w) job one.loops) one.record_id one.earlier w job

abbrev pub TermLoopsAreSeamless : Machine → List Turn → Job → List LoopsAttempt → Loops → Type 0
TermLoopsAreSeamless m turns job ones e =
    let w : World = world m turns in
    IsJob job
    → NeverGoesBack m (synced w)
    → AreTermLoops m w job ones
    → AreLooping job (restored job (attempts_of ones)) e
    → IsSeamless job (attempts_of ones) (history_of e)
