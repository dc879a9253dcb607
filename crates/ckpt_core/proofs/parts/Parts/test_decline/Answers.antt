-- Answers the goals of `Parts::test_decline`.
use Rattle.ckpt_core.proofs.{rules, ◌∙◌, ap, refl, sym, Option, Record, is_foreign, row_holds, row_fails, row_last, Names.state_of, Names.refusal}
use Rattle.ckpt_core.proofs.parts.Parts.test_decline.Goals as goal

pub returns-in_err-test_moment : goal.returns-in_err-test_moment
unfolding refusal state_of
returns-in_err-test_moment c = search (rules, row_holds, row_fails, row_last)

pub returns-in_err-test_given : goal.returns-in_err-test_given
unfolding refusal state_of
returns-in_err-test_given c = search (rules, row_holds, row_fails, row_last)

pub returns-in_default-clause-refused : goal.returns-in_default-clause-refused
unfolding refusal state_of
returns-in_default-clause-refused c =
    row_fails _ _ _ c.in_ok-test_moment.ensures (row_fails _ _ _ c.in_ok-test_given.ensures
    (row_last _ _ _ (ap (λ (o : Option Record). is_foreign o c.args.subtask) (sym c.in_default.ensures.place)) refl))

pub returns-clause-refused : goal.returns-clause-refused
unfolding refusal state_of
returns-clause-refused c = row_fails _ _ _ c.in_ok-test_moment.ensures (row_fails _ _ _ c.in_ok-test_given.ensures
    (row_last _ _ _ (c.at_place.ensures.refused ∙ c.test_subtask.ensures ∙ ap (λ (o : Option Record). is_foreign o c.args.subtask) (sym (c.in-Some.ensures.found c.at.result.now c.at.ensures))) refl))
