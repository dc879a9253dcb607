-- The loop invariants of `ack_list`.
use Rattle.ckpt_image.proofs.{◌≡◌, ack_of, left, with_front}
use Rattle.ckpt_image.proofs.records.ack_list.Given as goal

abbrev pub invariant-loop-item : goal.invariant-loop-item
invariant-loop-item l = with_front l.list.items (left ack_of l.item-items l.item-index) ≡ left ack_of l.item-items 0
