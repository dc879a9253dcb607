-- Answers the goals of `garbage_for_good`.
use Rattle.ckpt_terms.proofs.Classes.{garbage_for_good}
use Rattle.ckpt_terms.proofs.laws.garbage_for_good.Goals as goal

pub returns : goal.returns
returns c = garbage_for_good
