-- Answers the goals of `Shape::nth`.
use Rattle.std.proofs.Common.{◌∙◌, sym, arith}
use Rattle.ckpt_ids.proofs.ShapeLemmas.{subtask_found, subtask_further}
use Rattle.ckpt_ids.proofs.shape.Shape.nth.Goals as goal

pub loop-vertex-preserved : goal.loop-vertex-preserved
loop-vertex-preserved c =
    sym (subtask_further c.as_slice-parallelism-items.result.now c.loop-vertex.vertex c.loop-vertex.left (omega arith) (omega arith)) ∙ c.loop-vertex.invariant

pub returns-then-left-parallelism : goal.returns-then-left-parallelism
returns-then-left-parallelism c =
    let found = subtask_found c.as_slice-parallelism-items.result.now c.loop-vertex.vertex c.loop-vertex.left (omega arith) (omega arith) in
    rw (← c.self.view_is, ← c.as_slice-parallelism-items.ensures.value) (sym found ∙ c.loop-vertex.invariant)
