-- Answers the goals of `Parts::test_given`.
use Rattle.ckpt_core.proofs.{rules, row_holds, row_fails, row_last, Names.state_of, Names.refusal}
use Rattle.ckpt_core.proofs.parts.Parts.test_given.Goals as goal

pub returns : goal.returns
unfolding refusal state_of
returns c = search (rules, row_holds, row_fails, row_last)
