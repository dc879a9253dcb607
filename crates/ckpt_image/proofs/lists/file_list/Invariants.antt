-- The loop invariants of `file_list`.
use Rattle.ckpt_image.proofs.{◌≡◌, number_of, left, with_front}
use Rattle.ckpt_image.proofs.lists.file_list.Given as goal

abbrev pub invariant-loop-item : goal.invariant-loop-item
invariant-loop-item l = with_front l.list.items (left number_of l.item-items l.item-index) ≡ left number_of l.item-items 0
