-- Answers the goals of `settling`.
use Rattle.ckpt_terms.proofs.Resuming.{fenced_settled_alike, fenced_settled_can_hold}
use Rattle.ckpt_terms.proofs.laws.settling.Goals as goal

pub returns-clause-held : goal.returns-clause-held
returns-clause-held c = fenced_settled_can_hold

pub returns-clause-alike : goal.returns-clause-alike
returns-clause-alike c = fenced_settled_alike
