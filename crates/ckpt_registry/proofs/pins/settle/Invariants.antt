-- The loop invariants of `settle`.
use Rattle.ckpt_registry.proofs.{◌≡◌, ℕ, ◌+◌, take, drop, length, index_map_len, times, counter, AreInRange, AreSettled, own_in}
use Rattle.ckpt_registry.proofs.pins.settle.Given as goal

abbrev pub invariant-loop-one : goal.invariant-loop-one
invariant-loop-one l = record {
  settled : AreSettled l.chosen l.parts (take l.one-index l.fn.pinned.items) (take l.one-index l.one-items);
  left : drop l.one-index l.one-items ≡ drop l.one-index l.fn.pinned.items;
  same_length : length l.one-items ≡ length l.fn.pinned.items;
  counted : (f : ℕ) → counter l.counts f + times f (own_in (take l.one-index l.fn.pinned.items)) ≡ counter l.fn.counts f + times f (own_in (take l.one-index l.one-items));
  len : index_map_len l.counts ≡ index_map_len l.fn.counts;
  range : AreInRange l.counts;
}
