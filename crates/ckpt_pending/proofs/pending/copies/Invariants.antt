-- The loop invariants of `copies`.
use Rattle.ckpt_pending.proofs.{◌≡◌, ◌++◌, deque_iter_rest}
use Rattle.ckpt_pending.proofs.pending.copies.Given as goal

abbrev pub invariant-loop-acked : goal.invariant-loop-acked
invariant-loop-acked l = record {
  items : l.copies.items ++ deque_iter_rest l.acked-iterator ≡ l.acks.items;
  none : l.meter ≡ l.fn.meter;
}
