-- Answers the goals of `reads_back`.
use Rattle.ckpt_image.proofs.{image_reads_back}
use Rattle.ckpt_image.proofs.laws.reads_back.Goals as goal

pub returns : goal.returns
returns c = image_reads_back
