-- Answers the goals of `cutting`.
use Rattle.ckpt_terms.proofs.Resuming.{fenced_cut}
use Rattle.ckpt_terms.proofs.laws.cutting.Goals as goal

pub returns : goal.returns
returns c = fenced_cut
