-- Answers the goals of `global_part`.
use Rattle.ckpt_unaligned.proofs.Parts.{global_part}
use Rattle.ckpt_unaligned.proofs.laws.global_part.Goals as goal

pub returns : goal.returns
returns c = global_part
