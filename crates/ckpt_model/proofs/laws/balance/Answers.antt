-- Answers the goals of `balance`.
use Rattle.ckpt_model.proofs.Histories.Balance.{balance}
use Rattle.ckpt_model.proofs.laws.balance.Goals as goal

pub returns : goal.returns
returns c = balance
