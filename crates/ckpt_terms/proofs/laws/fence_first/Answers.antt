-- Answers the goals of `fence_first`.
use Rattle.ckpt_terms.proofs.Imports.{refl}
use Rattle.ckpt_terms.proofs.MachineLemmas.{first_fence}
use Rattle.ckpt_terms.proofs.laws.fence_first.Goals as goal

pub returns-clause-opening : goal.returns-clause-opening
returns-clause-opening c = λ o first. refl

pub returns-clause-accepted : goal.returns-clause-accepted
returns-clause-accepted c = λ o first c. first_fence o first c
