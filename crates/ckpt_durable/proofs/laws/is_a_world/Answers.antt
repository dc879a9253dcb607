-- Answers the goals of `is_a_world`.
use Rattle.ckpt_durable.proofs.Operating.{is_a_world}
use Rattle.ckpt_durable.proofs.laws.is_a_world.Goals as goal

pub returns : goal.returns
returns c = is_a_world
