-- The loop invariants of `Shape::nth`.
use Rattle.ckpt_ids.proofs.Names.{◌≡◌, drop, slice_get, subtasks, subtasks_from}
use Rattle.ckpt_ids.proofs.shape.Shape.nth.Given as goal

abbrev pub invariant-loop-vertex : goal.invariant-loop-vertex
invariant-loop-vertex l =
    slice_get (subtasks_from l.vertex (drop l.vertex l.parallelism-items)) l.left ≡ slice_get (subtasks l.parallelism-items) l.place
