-- Answers the goals of `completes`.
use Rattle.std.proofs.Common.{inr}
use Rattle.ckpt_model.proofs.Records.Present.{present-from_IsHeld}
use Rattle.ckpt_model.proofs.Reordering.Progress.{completes}
use Rattle.ckpt_model.proofs.laws.completes.Goals as goal

pub returns-clause-all : goal.returns-clause-all
returns-clause-all c = completes

pub returns-clause-pinned : goal.returns-clause-pinned
returns-clause-pinned c = λ m r f there h. present-from_IsHeld f m.records (r, there, inr h)
