-- Answers the goals of `deletions_are_safe`.
use Rattle.ckpt_terms.proofs.Classes.{deletions_are_safe}
use Rattle.ckpt_terms.proofs.laws.deletions_are_safe.Goals as goal

pub returns : goal.returns
returns c = deletions_are_safe
