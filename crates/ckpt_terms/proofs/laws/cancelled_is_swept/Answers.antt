-- Answers the goals of `cancelled_is_swept`.
use Rattle.ckpt_terms.proofs.Zombies.{cancelled_is_swept}
use Rattle.ckpt_terms.proofs.laws.cancelled_is_swept.Goals as goal

pub returns : goal.returns
returns c = cancelled_is_swept
