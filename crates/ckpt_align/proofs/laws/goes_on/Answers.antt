-- Answers the goals of `goes_on`.
use Rattle.ckpt_align.proofs.GoingOn.{goes_on}
use Rattle.ckpt_align.proofs.laws.goes_on.Goals as goal

pub returns : goal.returns
returns c = goes_on
