-- The barriers that enter a job are orders of the coordinator, which gives each number once. So no task has an earlier snapshot of a record.
use Rattle.std.specs.Prelude.{◌≡◌, ℕ, ◌≤◌, List, [], ◌∷◌, ◌++◌, ◌⊎◌, None}
use Rattle.ckpt_ids.specs.{declared.subtask.SubtaskId.SubtaskId, Ordered.IsIn}
use Rattle.ckpt_align.specs.{Histories.Barrier, Laws.HasCut}
use Rattle.ckpt_model.specs.Laws.{along, given_by}
use Rattle.ckpt_terms.specs.{declared.machine.Machine.Machine, Machines.core_in}
use Rattle.ckpt_logged.specs.Events.{AreEvents, Event, calls_in, events_replay}
use Rattle.ckpt_once.specs.Jobs.{By, History, IsFed, IsHistory, IsJob, Job, States, network}
use Rattle.ckpt_once.specs.Programs.{Offered, Turn}
use Rattle.ckpt_task.specs.{Deeds.Acknowledges, Deeds.told_in, Saving.Saved, Saving.under}
use Rattle.ckpt_task.specs.Loops.{AreLooping, Loops, history_of}

-- A barrier that a task was offered came by a channel of the job, or is the order of a record of this list.
abbrev pub OrdersAreOf : List ℕ → Job → History → Type 0
OrdersAreOf given job h = (event : By Turn) (i n : ℕ) → IsIn event h → event.what ≡ Offered i (Barrier n) → IsFed job event.task i ⊎ IsIn n given

-- So each record that a task has cut is one of them. Numbers begin at 1.
abbrev pub CutsAreGiven : List ℕ → Job → States → History → SubtaskId → ℕ → Type 0
CutsAreGiven given job from h t n = IsJob job → IsHistory job from h → OrdersAreOf given job h → 1 ≤ n → HasCut n ((network job from h).task t) → IsIn n given

-- the numbers that a coordinator gives while it is asked this
abbrev pub numbers_in : Machine → List Event → List ℕ
numbers_in m events = along given_by (core_in m) (calls_in m events)

-- an attempt: the states that it began with, what the tasks did, and what the coordinator was asked meanwhile
pub record Tried : Type 0 where
  pub from : States
  pub loops : Loops
  pub meanwhile : List Event

-- what was asked in these attempts, which have the newest first
abbrev pub asked : List Tried → List Event
asked [] = []
asked (k ∷ ks) = asked ks ++ k.meanwhile

-- the snapshots that a task had at the end of the last
abbrev pub saved_by : List Tried → SubtaskId → List Saved
saved_by [] t = []
saved_by (k ∷ ks) t = (k.loops.looped t).last.saved

-- Attempts over one coordinator. In each the orders are of records that it gave meanwhile. A task begins with no other snapshots than it had.
abbrev pub AreTriggered : Machine → Job → List Tried → Type 0
AreTriggered m job [] = Unit {0}
AreTriggered m job (k ∷ ks) =
    AreTriggered m job ks
    × AreLooping job k.from k.loops
    × OrdersAreOf (numbers_in (events_replay m (asked ks)) k.meanwhile) job (history_of k.loops)
    × ((t : SubtaskId) (n : ℕ) → IsIn t job.tasks → under n (saved_by ks t) ≡ None → under n (k.loops.looped t).first.saved ≡ None)

-- So when an attempt begins, a task has no snapshot of a record that it acknowledges in it. That is a premise of `loops_restore`, of
-- `sink_gives_once`, and of `HasGiven` and its laws.
abbrev pub HasNoEarlier : Machine → Job → List Tried → Tried → SubtaskId → ℕ → Type 0
HasNoEarlier m job ks k t n =
    IsJob job
    → AreEvents (asked (k ∷ ks))
    → AreTriggered m job (k ∷ ks)
    → IsIn t job.tasks
    → 1 ≤ n
    → IsIn (Acknowledges n) (told_in (k.loops.looped t).last.deeds)
    → under n (k.loops.looped t).first.saved ≡ None
