-- Answers the goals of `shape_value`.
use Rattle.ckpt_answers.proofs.{sym, ◌∙◌, ap, arith, natural, none_within-absurd, views-next, views-whole}
use Rattle.ckpt_answers.proofs.metadata.shape_value.Goals as goal
use Rattle.ckpt_answers.proofs.metadata.shape_value.Goals.{in-Some+in_ok-push, in_default}

pub loop-vertex-preserved : goal.loop-vertex-preserved
loop-vertex-preserved c =
    elim c.match-parallelism.branch [
      | in-Some+in_ok-push w ↦
          views-next natural c.args.shape.now c.loop-vertex.vertex w.in-Some.parallelism _ _ w.from.result (sym c.parallelism.ensures ∙ w.in-Some.is) c.loop-vertex.invariant
          (ap (λ v. v.items) w.items-is ∙ w.in_ok-push.ensures.items) w.from.ensures
      | in_default w ↦ absurd (none_within-absurd c.args.shape.now c.loop-vertex.vertex (sym c.parallelism.ensures ∙ w.in_default.is) (omega arith))
    ]

pub returns : goal.returns
returns c = c.from-2.ensures ∙ views-whole natural c.args.shape.now c.loop-vertex.vertex c.loop-vertex.items.items c.loop-vertex.invariant (omega arith)
