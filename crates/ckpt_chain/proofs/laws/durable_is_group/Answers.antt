-- Answers the goals of `durable_is_group`.
use Rattle.ckpt_chain.proofs.Durably.{durable_is_group}
use Rattle.ckpt_chain.proofs.laws.durable_is_group.Goals as goal

pub returns : goal.returns
returns c = durable_is_group
