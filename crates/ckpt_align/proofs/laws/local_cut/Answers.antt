-- Answers the goals of `local_cut`.
use Rattle.ckpt_align.proofs.Cutting.{local_cut}
use Rattle.ckpt_align.proofs.laws.local_cut.Goals as goal

pub returns : goal.returns
returns c = local_cut
