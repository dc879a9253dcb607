-- Answers the goals of `cutting`.
use Rattle.ckpt_model.proofs.Names.{common_steps, arith, State, replay, GoesOnAs, settled}
use Rattle.ckpt_model.proofs.Histories.Replays.{answers-append, replay-append}
use Rattle.ckpt_model.proofs.Images.Alike.{go_on_alike}
use Rattle.ckpt_model.proofs.Images.Settled.{settled_alike}
use Rattle.ckpt_model.proofs.laws.cutting.Goals as goal

pub returns : goal.returns
returns c = λ m before after.
    let n : State = replay m before in
    let same : GoesOnAs n (settled n) after = go_on_alike n (settled n) after (settled_alike n) in
    grind (arith, common_steps, answers-append, replay-append)
