-- Answers the goals of `pinned`.
use Rattle.ckpt_model.proofs.Histories.Pinned.{pinned}
use Rattle.ckpt_model.proofs.laws.pinned.Goals as goal

pub returns : goal.returns
returns c = pinned
