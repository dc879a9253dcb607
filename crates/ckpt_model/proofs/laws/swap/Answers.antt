-- Answers the goals of `swap`.
use Rattle.ckpt_model.proofs.Reordering.Exchange.{exchange}
use Rattle.ckpt_model.proofs.laws.swap.Goals as goal

pub returns : goal.returns
returns c = exchange
