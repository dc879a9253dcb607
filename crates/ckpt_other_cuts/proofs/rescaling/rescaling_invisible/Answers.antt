-- Answers the goals of `rescaling_invisible`.
use Rattle.ckpt_other_cuts.proofs.Redistributing.{rescaling_invisible}
use Rattle.ckpt_other_cuts.proofs.rescaling.rescaling_invisible.Goals as goal

pub returns : goal.returns
returns c = rescaling_invisible
