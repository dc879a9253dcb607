-- Answers the goals of `Parts::test_trigger`.
use Rattle.ckpt_core.proofs.{rules, row_holds, row_fails, row_last, Names.state_of, Names.refusal}
use Rattle.ckpt_core.proofs.parts.Parts.test_trigger.Goals as goal

pub returns-in_err-test_moment : goal.returns-in_err-test_moment
unfolding refusal state_of
returns-in_err-test_moment c = search (rules, row_holds, row_fails, row_last)

pub returns-in_err-test_running : goal.returns-in_err-test_running
unfolding refusal state_of
returns-in_err-test_running c = search (rules, row_holds, row_fails, row_last)

pub returns-in_err-test_next : goal.returns-in_err-test_next
unfolding refusal state_of
returns-in_err-test_next c = search (rules, row_holds, row_fails, row_last)

pub returns : goal.returns
unfolding refusal state_of
returns c = search (rules, row_holds, row_fails, row_last)
