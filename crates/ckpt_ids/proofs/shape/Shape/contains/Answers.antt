-- Answers the goals of `Shape::contains`.
use Rattle.ckpt_ids.proofs.Names.{◌∙◌, sym, arith, length, refl, ◌≤◌, get_or_past, le-ltb}
use Rattle.ckpt_ids.proofs.ShapeLemmas.{is_subtask_is}
use Rattle.ckpt_ids.proofs.shape.Shape.contains.Goals as goal

pub returns-then-vertex-parallelisms : goal.returns-then-vertex-parallelisms
returns-then-vertex-parallelisms c =
    let items = c.as_slice-parallelisms.result.now in
    rw (← c.self.view_is, ← c.as_slice-parallelisms.ensures.value, is_subtask_is items c.args.subtask, ← c.from.ensures, ← c.from-vertex.ensures) refl

pub returns-else-vertex-parallelisms : goal.returns-else-vertex-parallelisms
returns-else-vertex-parallelisms c =
    let items = c.as_slice-parallelisms.result.now in
    let past : length items ≤ c.args.subtask.vertex = omega arith in
    rw (← c.self.view_is, ← c.as_slice-parallelisms.ensures.value, is_subtask_is items c.args.subtask, get_or_past items c.args.subtask.vertex 0 past)
    (le-ltb c.from-vertex.result (length items) (omega arith) ∙ sym (le-ltb c.args.subtask.index 0 (omega arith)))
