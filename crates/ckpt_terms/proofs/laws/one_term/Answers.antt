-- Answers the goals of `one_term`.
use Rattle.ckpt_terms.proofs.OneTerm.{one_term}
use Rattle.ckpt_terms.proofs.laws.one_term.Goals as goal

pub returns : goal.returns
returns c = one_term
