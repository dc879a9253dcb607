-- Answers the goals of `Parts::test_ack`.
use Rattle.ckpt_core.proofs.{rules, refl, ◌∙◌, row_holds, row_fails, row_last, rows_hold, rows_fail, part_rows, no_part_rows, Names.state_of, Names.refusal}
use Rattle.ckpt_core.proofs.parts.Parts.test_ack.Goals as goal

pub returns-in_err-test_moment : goal.returns-in_err-test_moment
unfolding refusal state_of
returns-in_err-test_moment c = search (rules, row_holds, row_fails, row_last)

pub returns-in_err-test_files : goal.returns-in_err-test_files
unfolding refusal state_of
returns-in_err-test_files c = search (rules, row_fails, rows_hold)

pub returns-in_err-test_given : goal.returns-in_err-test_given
unfolding refusal state_of
returns-in_err-test_given c = search (rules, row_holds, row_fails, rows_fail)

pub returns-in_default-clause-refused : goal.returns-in_default-clause-refused
unfolding refusal state_of
returns-in_default-clause-refused c = row_fails _ _ _ c.in_ok-test_moment.ensures (rows_fail _ _ _ _ c.in_ok-test_files.ensures (row_fails _ _ _ c.in_ok-test_given.ensures
    (no_part_rows _ _ _ _ _ c.in_default.ensures.place refl)))

pub returns-clause-refused : goal.returns-clause-refused
unfolding refusal state_of
returns-clause-refused c = row_fails _ _ _ c.in_ok-test_moment.ensures (rows_fail _ _ _ _ c.in_ok-test_files.ensures (row_fails _ _ _ c.in_ok-test_given.ensures
    (part_rows c.args.self.now c.args.id c.args.subtask c.args.fresh.now c.args.reused.now _ c.at-pending.result.now _ c.requires.tied
    (c.in-Some.ensures.found c.at-pending.result.now c.at-pending.ensures) (c.at_place.ensures.refused ∙ c.test_part.ensures) refl)))
