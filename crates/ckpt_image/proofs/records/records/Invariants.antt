-- The loop invariants of `records`.
use Rattle.ckpt_image.proofs.{◌≡◌, map, record_in, saved_of, left, with_front}
use Rattle.ckpt_image.proofs.records.records.Given as goal

abbrev pub invariant-loop-item : goal.invariant-loop-item
invariant-loop-item l = with_front (map record_in l.records.items) (left saved_of l.item-items l.item-index) ≡ left saved_of l.item-items 0
