-- The loop invariants of `count_reused`.
use Rattle.ckpt_registry.proofs.{◌≡◌, ℕ, ◌+◌, take, index_map_len, counter, AreInRange, times}
use Rattle.ckpt_registry.proofs.counters.count_reused.Given as goal

abbrev pub invariant-loop-file : goal.invariant-loop-file
invariant-loop-file l = record {
  counted : (f : ℕ) → counter l.counts f ≡ counter l.fn.counts f + times f (take l.file-index l.files);
  len : index_map_len l.counts ≡ index_map_len l.fn.counts;
  range : AreInRange l.counts;
}
