-- Answers the goals of `comes_to_cut`.
use Rattle.ckpt_align.proofs.Completing.{comes_to_cut}
use Rattle.ckpt_align.proofs.laws.comes_to_cut.Goals as goal

pub returns : goal.returns
returns c = comes_to_cut
