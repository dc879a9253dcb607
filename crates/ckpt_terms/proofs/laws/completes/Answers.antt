-- Answers the goals of `completes`.
use Rattle.ckpt_terms.proofs.NamedProgress.{completes_in_term}
use Rattle.ckpt_terms.proofs.laws.completes.Goals as goal

pub returns : goal.returns
returns c = completes_in_term
