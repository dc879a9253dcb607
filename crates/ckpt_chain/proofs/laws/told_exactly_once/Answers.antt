-- Answers the goals of `told_exactly_once`.
use Rattle.ckpt_chain.proofs.Chain.{told_exactly_once}
use Rattle.ckpt_chain.proofs.laws.told_exactly_once.Goals as goal

pub returns : goal.returns
returns c = told_exactly_once
