-- Answers the goals of `missing`.
use Rattle.ckpt_answers.proofs.{arith, missing-counted}
use Rattle.ckpt_answers.proofs.metadata.missing.Goals as goal

pub overflow_sub-result : goal.overflow_sub-result
overflow_sub-result c =
    let all = missing-counted c.args.metadata.now c.acknowledged.ensures.order in
    omega (arith, c.acknowledged.ensures.value, c.size.ensures.value, c.from.ensures)

pub returns : goal.returns
returns c =
    let all = missing-counted c.args.metadata.now c.acknowledged.ensures.order in
    omega (arith, c.acknowledged.ensures.value, c.size.ensures.value, c.from.ensures)
