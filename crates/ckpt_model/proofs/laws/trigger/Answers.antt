-- Answers the goals of `trigger`.
use Rattle.ckpt_model.proofs.Keeping.Triggered.{as_tick}
use Rattle.ckpt_model.proofs.laws.trigger.Goals as goal

pub returns : goal.returns
returns c = as_tick
