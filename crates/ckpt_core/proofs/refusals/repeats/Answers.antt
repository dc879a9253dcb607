-- Answers the goals of `repeats`.
use Rattle.ckpt_core.proofs.{rules, nat_lt, answers_always, repeats-from_adjacent}
use Rattle.ckpt_core.proofs.refusals.repeats.Goals as goal

pub returns : goal.returns
returns c = repeats-from_adjacent c.args.files.now c.is_sorted_by.result c.requires (c.is_sorted_by.ensures.cases nat_lt (answers_always _ _ _ (λ f a r g called. search rules)))
