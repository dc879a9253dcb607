-- Answers the goals of `Parts::test_configure`.
use Rattle.ckpt_core.proofs.{rules, row_holds, row_fails, row_last, Names.state_of, Names.refusal}
use Rattle.ckpt_core.proofs.parts.Parts.test_configure.Goals as goal

pub returns-in_err-test_moment : goal.returns-in_err-test_moment
unfolding refusal state_of
returns-in_err-test_moment c = search (rules, row_holds, row_fails, row_last)

pub returns-in_err-test_not_cancelled : goal.returns-in_err-test_not_cancelled
unfolding refusal state_of
returns-in_err-test_not_cancelled c = search (rules, row_holds, row_fails, row_last)

pub returns : goal.returns
unfolding refusal state_of
returns c = search (rules, row_holds, row_fails, row_last)
