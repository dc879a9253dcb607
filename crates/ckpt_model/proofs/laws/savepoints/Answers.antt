-- Answers the goals of `savepoints`.
use Rattle.ckpt_model.proofs.Histories.Savepoints.{savepoints_stay}
use Rattle.ckpt_model.proofs.laws.savepoints.Goals as goal

pub returns : goal.returns
returns c = savepoints_stay
