-- Answers the goals of `redistributes`.
use Rattle.ckpt_other_cuts.proofs.Redistributing.{redistributes}
use Rattle.ckpt_other_cuts.proofs.rescaling.redistributes.Goals as goal

pub returns : goal.returns
returns c = redistributes
