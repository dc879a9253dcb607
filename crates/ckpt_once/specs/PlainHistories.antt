-- Runs as histories in which no record is triggered.
use Rattle.std.specs.Prelude.{◌≡◌, [], ◌∷◌}
use Rattle.ckpt_align.specs.Histories.{Element}
use Rattle.ckpt_once.specs.Programs.{Move, Takes, Draws, Turn, Offered, Drawn}
use Rattle.ckpt_once.specs.Jobs.{History, IsHistory, IsJob, IsRun, Job, Run, States, run_of}

abbrev pub turn_of : Move → Turn
turn_of (Takes i x) = Offered i (Element x)
turn_of Draws = Drawn

abbrev pub history_of : Run → History
history_of [] = []
history_of (step ∷ run) = record { task = step.task; what = turn_of step.what } ∷ history_of run

-- A run is what the tasks do in the same engine if no barrier ever comes.
abbrev pub RunIsHistory : Job → States → Run → Type 0
RunIsHistory job from run = IsJob job → IsRun job from run → IsHistory job from (history_of run) × (run_of job (history_of run) ≡ run)
