-- The loop invariants of `all_files`.
use Rattle.ckpt_pending.proofs.{◌≡◌, ◌++◌, flat_map, deque_iter_rest}
use Rattle.ckpt_pending.proofs.pending.all_files.Given as goal

abbrev pub invariant-loop-acked : goal.invariant-loop-acked
invariant-loop-acked l = record {
  items : l.all.items ++ flat_map (λ a. a.files) (deque_iter_rest l.acked-iterator) ≡ flat_map (λ a. a.files) l.acks.items;
  none : l.meter ≡ l.fn.meter;
}
