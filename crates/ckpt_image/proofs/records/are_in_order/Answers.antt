-- Answers the goals of `are_in_order`.
use Rattle.ckpt_image.proofs.{◌∙◌, rules, sym, acknowledges_before, in_order-from_test, test-from_adjacent}
use Rattle.std.proofs.lemmas.List.Sorted.{answers_always}
use Rattle.ckpt_image.proofs.records.are_in_order.Goals as goal

pub returns-clause-value : goal.returns-clause-value
returns-clause-value c = test-from_adjacent c.args.acks.now c.is_sorted_by.result (c.is_sorted_by.ensures.cases acknowledges_before (answers_always _ _ _ (λ f a r g called. search rules)))

pub returns-clause-order : goal.returns-clause-order
returns-clause-order c = λ h. in_order-from_test c.args.acks.now (sym (returns-clause-value c) ∙ h)
