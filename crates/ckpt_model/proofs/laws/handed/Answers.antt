-- Answers the goals of `handed`.
use Rattle.ckpt_model.proofs.Histories.Balance.{handed}
use Rattle.ckpt_model.proofs.laws.handed.Goals as goal

pub returns : goal.returns
returns c = handed
