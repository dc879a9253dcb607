-- Answers the goals of `sound`.
use Rattle.ckpt_model.proofs.Soundness.Histories.{replay_is_sound}
use Rattle.ckpt_model.proofs.laws.sound.Goals as goal

pub returns : goal.returns
returns c = replay_is_sound
