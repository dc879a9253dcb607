-- The loop invariants of `taken_in`.
use Rattle.ckpt_outbox.proofs.{◌≡◌, ◌++◌, filter, nat_eq, is_apart, map_get, map_keys}
use Rattle.ckpt_outbox.proofs.places.taken_in.Given as goal

abbrev pub invariant-loop-file : goal.invariant-loop-file
invariant-loop-file l = record {
  files : l.files.items ++ filter (is_apart (map_get nat_eq l.index) l.waiting.items) l.file-iterator ≡ filter (is_apart (map_get nat_eq l.index) l.waiting.items) (map_keys l.index);
  none : l.meter ≡ l.fn.meter;
}
