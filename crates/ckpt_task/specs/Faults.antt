-- An engine whose tasks ran in loops until faults stopped some of them. Lists have the newest first.
use Rattle.std.specs.Prelude.{◌≡◌, ◌↔◌, ◌⊎◌, ℕ, false, List, [], ◌++◌}
use Rattle.ckpt_ids.specs.{declared.subtask.SubtaskId.SubtaskId, Ordered.IsIn}
use Rattle.ckpt_align.specs.{Histories.Item, Laws.Channel}
use Rattle.ckpt_once.specs.Jobs.{IsJob, IsTurnOf, Job, States}
use Rattle.ckpt_once.specs.Programs.{Program, Turn}
use Rattle.ckpt_task.specs.Deeds.{Acknowledges, sent_in, taken_in, told_in}
use Rattle.ckpt_task.specs.{Engines.begun, Saving.under, Turns.At}
use Rattle.ckpt_task.specs.Loops.{AreLooping, AreRuns, HasLooped, IsDownstreamFirst, KeepsOrder, Looped, Loops, deeds_of, turns_of}
use Rattle.ckpt_task.specs.Runs.{Around, HasStopped, Waits}

-- All it did were runs, the last of which a fault stopped.
pub record HasFailed (p : Program) (at : At) (l : Looped) : Type 0 where
  pub task : l.first.task ≡ at
  pub unused : l.first.deeds ≡ []
  pub begins : List Around
  pub last_begin : Around
  pub runs : AreRuns p begins l.first last_begin
  pub waits : Waits
  pub stopped : HasStopped p waits last_begin l.last
  pub ended_not : l.has_ended ≡ false

abbrev pub HasLoopedOrFailed : Program → At → Looped → Type 0
HasLoopedOrFailed p at l = HasLooped p at l ⊎ HasFailed p at l

-- as `AreLooping`, but a fault may have stopped any task in its last run
pub record AreFailing (job : Job) (from : States) (e : Loops) : Type 0 where
  pub looped : (t : SubtaskId) → IsIn t job.tasks → HasLoopedOrFailed (job.program t) ((begun job from).task t) (e.looped t)
  pub are_turns : (t : SubtaskId) (turn : Turn) → IsIn t job.tasks → IsIn turn (turns_of (e.looped t)) → IsTurnOf job t turn
  pub keep_order : (c : Channel) → IsIn c job.channels → KeepsOrder e c
  pub has_no_cycle : IsDownstreamFirst job e.order
  pub are_tasks : (t : SubtaskId) → IsIn t e.order ↔ IsIn t job.tasks

-- What a task did counts as a loop without a fault: with the same taken from its channels, at least the same put on them,
-- each acknowledgement that it told, and the snapshots of the records that it acknowledged.
pub record CountsAs (l k : Looped) : Type 0 where
  pub first : k.first ≡ l.first
  pub taken_on : (j : ℕ) → taken_in j (deeds_of k) ≡ taken_in j (deeds_of l)
  pub sent_on : (c : ℕ) → (more : List Item) × (sent_in c (deeds_of k) ≡ sent_in c (deeds_of l) ++ more)
  pub told : (n : ℕ) → IsIn (Acknowledges n) (told_in l.last.deeds) → IsIn (Acknowledges n) (told_in k.last.deeds)
  pub saved : (n : ℕ) → IsIn (Acknowledges n) (told_in l.last.deeds) → under n k.last.saved ≡ under n l.last.saved

-- Loops without a fault, as which all that the tasks did counts. So the laws of loops hold of them.
pub record CountAsLoops (job : Job) (from : States) (e : Loops) : Type 0 where
  pub loops : Loops
  pub are_looping : AreLooping job from loops
  pub count : (t : SubtaskId) → IsIn t job.tasks → CountsAs (e.looped t) (loops.looped t)

abbrev pub FaultsCount : Job → States → Loops → Type 0
FaultsCount job from e = IsJob job → AreFailing job from e → CountAsLoops job from e
