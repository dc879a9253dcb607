-- Answers the goals of `durable`.
use Rattle.ckpt_durable.proofs.Worlds.{durable}
use Rattle.ckpt_durable.proofs.laws.durable.Goals as goal

pub returns : goal.returns
returns c = durable
