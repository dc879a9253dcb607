-- Answers the goals of `only_its_term`.
use Rattle.ckpt_chain.proofs.Chain.{acknowledges_cuts}
use Rattle.ckpt_chain.proofs.laws.only_its_term.Goals as goal

pub returns : goal.returns
returns c = acknowledges_cuts
