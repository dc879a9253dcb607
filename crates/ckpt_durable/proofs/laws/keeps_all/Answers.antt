-- Answers the goals of `keeps_all`.
use Rattle.ckpt_durable.proofs.Worlds.{keeps_all}
use Rattle.ckpt_durable.proofs.laws.keeps_all.Goals as goal

pub returns : goal.returns
returns c = keeps_all
