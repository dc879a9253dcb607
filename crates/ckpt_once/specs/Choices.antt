-- Jobs in which no task chooses what it does next: then all runs are beginnings of one.
use Rattle.std.specs.Prelude.{◌≡◌, ℕ, List, ◌++◌, ◌⊎◌, Option, Some, None}
use Rattle.ckpt_ids.specs.{declared.subtask.SubtaskId.SubtaskId, Ordered.IsIn}
use Rattle.ckpt_align.specs.Laws.{Channel}
use Rattle.ckpt_once.specs.Programs.{Move, Takes, Draws}
use Rattle.ckpt_once.specs.Jobs.{IsMoveOf, IsPrefix, IsRun, Job, Run, States, of}
use Rattle.ckpt_once.specs.Sinks.{Sink, written}

-- the one channel that a task takes from; none if it makes steps of its own
abbrev pub Plan : Type 0
Plan = SubtaskId → Option Channel

abbrev pub IsPlanned : Job → SubtaskId → Option Channel → Move → Type 0
IsPlanned job t None move = move ≡ Draws
IsPlanned job t (Some c) move = IsIn c job.channels × (c.receiver ≡ t) × ((x : ℕ) × (move ≡ Takes c.input x))

-- each task has only one thing to do next
abbrev pub HasNoChoice : Job → Plan → Type 0
HasNoChoice job plan = (t : SubtaskId) (move : Move) → IsMoveOf job t move → IsPlanned job t (plan t) move

-- of two lists of moves, the newest first, one is the other and then more
abbrev pub GoTogether : List Move → List Move → Type 0
GoTogether moves others = ((more : List Move) × (moves ≡ more ++ others)) ⊎ ((more : List Move) × (others ≡ more ++ moves))

-- one is a beginning of the other
abbrev pub Agree : List ℕ → List ℕ → Type 0
Agree xs ys = IsPrefix xs ys ⊎ IsPrefix ys xs

-- If no task chooses between inputs, two runs differ only in how far each task has come. So what a sink has written in
-- one is a beginning of what it has written in the other: a job has one output. Source: Kahn 1974.
abbrev pub OneOutput : Job → States → Plan → Run → Run → Type 0
OneOutput job from plan first second =
    HasNoChoice job plan
    → IsRun job from first
    → IsRun job from second
    → ((t : SubtaskId) → GoTogether (of t first) (of t second)) × ((sink : Sink) → Agree (written job from first sink) (written job from second sink))
