-- The loop invariants of `sum_is_at_most`.
use Rattle.std.proofs.Common.{◌≡◌, ◌+◌, sum, take}
use Rattle.ckpt_ids.proofs.shape.sum_is_at_most.Given as goal

abbrev pub invariant-loop-number : goal.invariant-loop-number
invariant-loop-number l = l.left + sum (take l.number-index l.list) ≡ l.fn.most
