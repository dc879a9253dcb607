-- The loop invariants of `shape_value`.
use Rattle.ckpt_answers.proofs.{◌≡◌, map, take, view, natural}
use Rattle.ckpt_answers.proofs.metadata.shape_value.Given as goal

abbrev pub invariant-loop-vertex : goal.invariant-loop-vertex
invariant-loop-vertex l = map view l.items.items ≡ map natural (take l.vertex l.shape)
