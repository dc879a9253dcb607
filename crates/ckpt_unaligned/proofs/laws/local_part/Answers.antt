-- Answers the goals of `local_part`.
use Rattle.ckpt_unaligned.proofs.Parts.{local_part}
use Rattle.ckpt_unaligned.proofs.laws.local_part.Goals as goal

pub returns : goal.returns
returns c = local_part
