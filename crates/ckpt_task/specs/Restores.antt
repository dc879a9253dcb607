-- What a task is restored to: the snapshot that it saved at its cut.
use Rattle.std.specs.Prelude.{◌≡◌, ℕ, List, [], ◌∷◌, Option, Some, None}
use Rattle.ckpt_ids.specs.declared.subtask.SubtaskId.{SubtaskId}
use Rattle.ckpt_align.specs.{Alignment.Alignment, Alignment.opened, Laws.HasCut}
use Rattle.ckpt_once.specs.Jobs.{History, Job, States, network, of, snapshots}
use Rattle.ckpt_once.specs.Programs.{Program, Turn, aligned, moves_in, state}
use Rattle.ckpt_once.specs.Sinks.{Transaction}
use Rattle.ckpt_task.specs.{Engines.IsWorking, Engines.begun, declared.turn.Outcome.Outcome}
use Rattle.ckpt_task.specs.Saving.{Saved, state_under, under}
use Rattle.ckpt_task.specs.Turns.{At, IsSaved, cut_in, cut_of}

-- What a turn saves, as `Task::turn` says in `cut` and `snapshot`. A turn that it refuses is none, and saves nothing.
pub record Saves (cut : Option ℕ) (s : ℕ) (before now : List Saved) : Type 0 where
  pub outcome : Outcome
  pub waiting : List Transaction
  pub is_cut : cut_in outcome ≡ cut
  pub is_saved : IsSaved outcome s waiting before now

-- The snapshots of a task after its turns: those that were there before, and what each turn saved.
abbrev pub AreSaved : Program → ℕ → Alignment → List Turn → List Saved → List Saved → Type 0
AreSaved p s a [] before now = now ≡ before
AreSaved p s a (turn ∷ turns) before now =
    (middle : List Saved) × AreSaved p s a turns before middle × Saves (cut_of (aligned a turns) turn) (state p s (moves_in a turns)) middle now

-- `Task::restored` gives such a task for this record: from the newest snapshot of it, with a new aligner.
pub record IsRestored (inputs n : ℕ) (ones : List Saved) (task : At) : Type 0 where
  pub state : state_under n ones ≡ Some task.state
  pub opened : task.alignment ≡ opened inputs

-- If there was no snapshot of the record before this attempt, the task had cut the record, and begins the next attempt as the laws say: in its snapshot.
abbrev pub RestoresSnapshot : Job → States → History → SubtaskId → ℕ → At → Type 0
RestoresSnapshot job from h t n task =
    (before now : List Saved)
    → IsWorking job from h
    → AreSaved (job.program t) (from t) (opened (job.inputs t)) (of t h) before now
    → under n before ≡ None
    → IsRestored (job.inputs t) n now task
    → HasCut n ((network job from h).task t) × (task ≡ (begun job (snapshots n job from h)).task t)
