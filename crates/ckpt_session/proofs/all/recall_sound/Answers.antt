-- Answers the goals of `recall_sound`.
use Rattle.ckpt_session.proofs.{subst, IsSound}
use Rattle.ckpt_session.proofs.all.recall_sound.Goals as goal

pub returns : goal.returns
returns c = subst IsSound c.core.ensures.replay c.core.ensures.sound
