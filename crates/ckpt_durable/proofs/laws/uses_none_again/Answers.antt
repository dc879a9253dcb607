-- Answers the goals of `uses_none_again`.
use Rattle.ckpt_durable.proofs.Worlds.{uses_none_again}
use Rattle.ckpt_durable.proofs.laws.uses_none_again.Goals as goal

pub returns : goal.returns
returns c = uses_none_again
