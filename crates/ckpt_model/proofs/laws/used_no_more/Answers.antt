-- Answers the goals of `used_no_more`.
use Rattle.ckpt_model.proofs.Histories.Balance.{used_no_more}
use Rattle.ckpt_model.proofs.laws.used_no_more.Goals as goal

pub returns : goal.returns
returns c = used_no_more
