-- A job of tasks that each call of `Task::turn` moves on, over channels that keep their order. Histories have the newest
-- turn first.
use Rattle.std.specs.Prelude.{◌≡◌, ℕ, Bool, true, false, List, [], ◌∷◌, ◌++◌, drop, length, if◌then◌else◌, Option, Some, None}
use Rattle.ckpt_ids.specs.{declared.subtask.SubtaskId.SubtaskId, Ordered.IsIn, Shapes.same_subtask}
use Rattle.ckpt_align.specs.{Alignment.Alignment, Alignment.opened, Histories.Item, Laws.Channel}
use Rattle.ckpt_once.specs.Programs.{Program, Turn, Offered, Ended, aligned, moves_in, state}
use Rattle.ckpt_once.specs.Jobs.{By, History, IsTurnOf, Job, States, of}
use Rattle.ckpt_task.specs.Turns.{At, cut_of, puts, takes, turned}

-- each task, and what is on each channel, the oldest first
pub record Engine : Type 0 where
  pub task : SubtaskId → At
  pub on : Channel → List Item

-- All tasks start, from these states, with new aligners and empty channels.
abbrev pub begun : Job → States → Engine
begun job from = record { task = λ t. record { state = from t; alignment = opened (job.inputs t) }; on = λ c. [] }

-- what a turn of a task takes from a channel, and what it puts on it
abbrev pub taken_by : Job → Engine → By Turn → Channel → List Item
taken_by job e event c = if same_subtask event.task c.receiver then takes (job.program c.receiver) (e.task c.receiver) event.what c.input else []

abbrev pub put_by : Job → Engine → By Turn → Channel → List Item
put_by job e event c = if same_subtask event.task c.sender then puts (job.program c.sender) (e.task c.sender) event.what c.output else []

-- A turn of a task. What it takes leaves the front of its channel; what it puts goes to the back.
abbrev pub goes_on : Job → Engine → By Turn → Engine
goes_on job e event = record {
  task = λ t. if same_subtask event.task t then turned (job.program t) (e.task t) event.what else e.task t;
  on = λ c. drop (length (taken_by job e event c)) (e.on c) ++ put_by job e event c;
}

abbrev pub engine : Job → States → History → Engine
engine job from [] = begun job from
engine job from (event ∷ h) = goes_on job (engine job from h) event

-- what the task is offered is at the front of this channel
abbrev pub IsAtFront : Turn → ℕ → List Item → Type 0
IsAtFront (Offered i item) j on = i ≡ j → (rest : List Item) × (on ≡ item ∷ rest)
IsAtFront turn j on = Unit {0}

abbrev pub has_ended_in : List Turn → Bool
has_ended_in [] = false
has_ended_in (Ended ∷ turns) = true
has_ended_in (turn ∷ turns) = has_ended_in turns

-- The engine gives tasks their turns, in any order: each is of a task that has not ended, and offers what is at the front
-- of a channel. Barriers and ends may also come from elsewhere, as the coordinator's orders to a source do.
abbrev pub IsWorking : Job → States → History → Type 0
IsWorking job from [] = Unit {0}
IsWorking job from (event ∷ h) =
    IsWorking job from h
    × IsTurnOf job event.task event.what
    × (has_ended_in (of event.task h) ≡ false)
    × ((c : Channel) → IsIn c job.channels → event.task ≡ c.receiver → IsAtFront event.what c.input ((engine job from h).on c))

-- A snapshot, of the record that a turn cuts: the task's state before it.
pub record Snapped : Type 0 where
  pub id : ℕ
  pub state : ℕ

abbrev pub snapped_at : Option ℕ → ℕ → List Snapped
snapped_at None s = []
snapped_at (Some n) s = record { id = n; state = s } ∷ []

abbrev pub snapped_by : Program → ℕ → Alignment → List Turn → List Snapped
snapped_by p s a [] = []
snapped_by p s a (turn ∷ turns) = snapped_at (cut_of (aligned a turns) turn) (state p s (moves_in a turns)) ++ snapped_by p s a turns

-- the snapshots that a task takes
abbrev pub snapped : Job → States → History → SubtaskId → List Snapped
snapped job from h t = snapped_by (job.program t) (from t) (opened (job.inputs t)) (of t h)
