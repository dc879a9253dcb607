-- Answers the goals of `advances`.
use Rattle.ckpt_terms.proofs.Advancing.{advances}
use Rattle.ckpt_terms.proofs.laws.advances.Goals as goal

pub returns : goal.returns
returns c = advances
