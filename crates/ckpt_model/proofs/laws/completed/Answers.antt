-- Answers the goals of `completed`.
use Rattle.ckpt_model.proofs.Keeping.Completed.{leaves_done}
use Rattle.ckpt_model.proofs.laws.completed.Goals as goal

pub returns : goal.returns
returns c = leaves_done
