-- The loop invariants of `spans`.
use Rattle.ckpt_names_image.proofs.Names.{◌≡◌, left, with_front, span_of}
use Rattle.ckpt_names_image.proofs.reading.spans.Given as goal

abbrev pub invariant-loop-item : goal.invariant-loop-item
invariant-loop-item l = with_front l.list.items (left span_of l.item-items l.item-index) ≡ left span_of l.item-items 0
