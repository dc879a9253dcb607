-- What a snapshot depends on.
use Rattle.std.specs.Prelude.{◌≡◌, ℕ, ◌<◌, List, [], ◌∷◌, ◌++◌}
use Rattle.ckpt_ids.specs.{declared.subtask.SubtaskId.SubtaskId, Ordered.IsIn}
use Rattle.ckpt_align.specs.{Alignment.opened, Laws.Task}
use Rattle.ckpt_align.specs.Histories.{Item, before, taken}
use Rattle.ckpt_once.specs.Programs.{Move, Program, Takes}
use Rattle.ckpt_once.specs.Jobs.{HaveCut, History, IsHistory, IsJob, IsMoveOf, Job, States, network, snapshots}

-- the state of a task that takes these elements, the oldest first, from one input
abbrev pub state_over : Program → ℕ → ℕ → List ℕ → ℕ
state_over p s i [] = s
state_over p s i (x ∷ xs) = state_over p (p.next s (Takes i x)) i xs

abbrev pub TakesOnlyFrom : Job → SubtaskId → ℕ → Type 0
TakesOnlyFrom job t i = (move : Move) → IsMoveOf job t move → (x : ℕ) × (move ≡ Takes i x)

-- The snapshot of a task with one input of elements is a function of what comes before the record's barrier on it,
-- whatever follows. With several inputs it depends on the order in which the task took their elements, too.
abbrev pub SnapshotOfInput : ℕ → Job → States → History → SubtaskId → ℕ → List Item → Type 0
SnapshotOfInput n job from h t i rest =
    let task : Task = (network job from h).task t in
    IsJob job
    → IsHistory job from h
    → HaveCut n job from h
    → IsIn t job.tasks
    → TakesOnlyFrom job t i
    → i < job.inputs t
    → snapshots n job from h t ≡ state_over (job.program t) (from t) i (before n (taken i (opened task.inputs) task.actions ++ rest))
