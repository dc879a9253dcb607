-- A worked example: the loops of `ckpt_task` and the one coordinator that gave the number of their record.
use Rattle.std.specs.Prelude.{◌≡◌, [], ◌∷◌, map, refl}
use Rattle.ckpt_model.specs.Steps.{step_computes}
use Rattle.ckpt_logged.specs.Events.{Plain}
use Rattle.ckpt_once.specs.{Jobs.restored, Jobs.starts, WorkedExamples.job}
use Rattle.ckpt_task.specs.Loops.{attempts_of}
use Rattle.ckpt_task.specs.WorkedLoops.{again, attempt, calls, failed}
use Rattle.ckpt_chain.specs.{Triggered.Tried, Triggered.numbers_in, WorkedExamples.begin}

-- record 1 is triggered and acknowledged
abbrev pub first : Tried
first = record { from = starts job; loops = failed; meanwhile = map Plain calls }

-- the job goes on from it
abbrev pub second : Tried
second = record { from = restored job (attempts_of (attempt ∷ [])); loops = again; meanwhile = [] }

pub numbers : numbers_in begin first.meanwhile ≡ 1 ∷ []
unfolding step_computes
numbers = refl
