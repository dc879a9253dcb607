-- Answers the goals of `exactly_once`.
use Rattle.ckpt_once.proofs.Restarting.{exactly_once}
use Rattle.ckpt_once.proofs.laws.exactly_once.Goals as goal

pub returns : goal.returns
returns c = exactly_once
