-- The loop invariants of `count_fresh`.
use Rattle.ckpt_registry.proofs.{◌≡◌, ℕ, ◌+◌, ◌≤◌, length, take, index_map_len, spare, counter, AreInRange, times}
use Rattle.ckpt_registry.proofs.counters.count_fresh.Given as goal

abbrev pub invariant-loop-file : goal.invariant-loop-file
invariant-loop-file l = record {
  counted : (f : ℕ) → counter l.counts f ≡ counter l.fn.counts f + times f (take l.file-index l.files);
  len : index_map_len l.counts ≡ index_map_len l.fn.counts + l.file-index;
  room : length l.files ≤ spare l.counts + l.file-index;
  range : AreInRange l.counts;
}
