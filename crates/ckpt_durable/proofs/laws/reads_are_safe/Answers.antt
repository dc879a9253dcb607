-- Answers the goals of `reads_are_safe`.
use Rattle.ckpt_durable.proofs.Reading.{reads_are_safe}
use Rattle.ckpt_durable.proofs.laws.reads_are_safe.Goals as goal

pub returns : goal.returns
returns c = reads_are_safe
