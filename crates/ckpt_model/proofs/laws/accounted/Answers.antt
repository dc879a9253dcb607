-- Answers the goals of `accounted`.
use Rattle.ckpt_model.proofs.Histories.Balance.{accounted}
use Rattle.ckpt_model.proofs.laws.accounted.Goals as goal

pub returns : goal.returns
returns c = accounted
