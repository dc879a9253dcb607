-- Answers the goals of `choice`.
use Rattle.ckpt_model.proofs.Histories.Choice.{choice_is_live}
use Rattle.ckpt_model.proofs.Soundness.Histories.{replay_is_sound}
use Rattle.ckpt_model.proofs.laws.choice.Goals as goal

pub returns : goal.returns
returns c = λ o calls can are. choice_is_live o calls (replay_is_sound o calls can are)
