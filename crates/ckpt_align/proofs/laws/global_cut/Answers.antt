-- Answers the goals of `global_cut`.
use Rattle.ckpt_align.proofs.Carrying.{global_cut}
use Rattle.ckpt_align.proofs.laws.global_cut.Goals as goal

pub returns : goal.returns
returns c = global_cut
