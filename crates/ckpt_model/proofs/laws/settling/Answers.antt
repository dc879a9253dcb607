-- Answers the goals of `settling`.
use Rattle.ckpt_model.proofs.Images.Settled.{settled_alike, settled_can_hold}
use Rattle.ckpt_model.proofs.laws.settling.Goals as goal

pub returns-clause-held : goal.returns-clause-held
returns-clause-held c = settled_can_hold

pub returns-clause-alike : goal.returns-clause-alike
returns-clause-alike c = settled_alike
