-- The loop invariants of `waiting_in`.
use Rattle.ckpt_outbox.proofs.{◌≡◌, ◌++◌, deque_iter_rest}
use Rattle.ckpt_outbox.proofs.places.waiting_in.Given as goal

abbrev pub invariant-loop-file : goal.invariant-loop-file
invariant-loop-file l = record {
  files : l.files.items ++ deque_iter_rest l.file-iterator ≡ l.waiting.items;
  none : l.meter ≡ l.fn.meter;
}
