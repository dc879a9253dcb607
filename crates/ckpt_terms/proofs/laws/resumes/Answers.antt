-- Answers the goals of `resumes`.
use Rattle.ckpt_terms.proofs.Resuming.{goes_on_alike}
use Rattle.ckpt_terms.proofs.laws.resumes.Goals as goal

pub returns : goal.returns
returns c = goes_on_alike
