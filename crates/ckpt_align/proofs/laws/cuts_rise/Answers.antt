-- Answers the goals of `cuts_rise`.
use Rattle.ckpt_align.proofs.GoingOn.{cuts_rise}
use Rattle.ckpt_align.proofs.laws.cuts_rise.Goals as goal

pub returns : goal.returns
returns c = cuts_rise
