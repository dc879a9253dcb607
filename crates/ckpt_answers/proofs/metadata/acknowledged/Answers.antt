-- Answers the goals of `acknowledged`.
use Rattle.ckpt_answers.proofs.{◌≡◌, ◌∙◌, ◌+◌, ap, cond, sym, arith, is_subtask, count_by-take-next}
use Rattle.ckpt_answers.proofs.metadata.acknowledged.Goals as goal
use Rattle.ckpt_answers.proofs.metadata.acknowledged.Goals.{then-is_of, else-is_of}

pub loop-place-preserved : goal.loop-place-preserved
loop-place-preserved c =
    let next = count_by-take-next (λ a. is_subtask c.args.shape.now a.subtask) c.args.acks.now c.loop-place.place c.is_of.result c.loop-place.count c.if-is_of.count
    (omega arith) c.is_of.ensures c.loop-place.invariant in
    elim c.if-is_of.branch [
      | then-is_of w ↦ next (w.count-is ∙ ap (λ b. c.loop-place.count + cond b 1 0) (sym w.if-is_of.true))
      | else-is_of w ↦ let same : c.loop-place.count ≡ c.loop-place.count + 0 = omega arith in next (w.count-is ∙ same ∙ ap (λ b. c.loop-place.count + cond b 1 0) (sym w.if-is_of.false))
    ]
