-- The loop invariants of `unpin`.
use Rattle.ckpt_registry.proofs.{◌≡◌, ◌++◌, [], length, take, drop, times, AreLowered, own_of, staying}
use Rattle.ckpt_registry.proofs.pins.unpin.Given as goal

abbrev pub invariant-loop : goal.invariant-loop
invariant-loop l = record {
  row : l.pinned.items ≡ staying l.owners (take l.counter l.fn.pinned.items) ++ drop l.counter l.fn.pinned.items;
  place : l.place ≡ length (staying l.owners (take l.counter l.fn.pinned.items));
  lowered : AreLowered (λ f. times f (own_of l.owners (take l.counter l.fn.pinned.items))) l.fn.counts l.fn.released l.counts l.released;
  no_files : l.room.items ≡ [];
}
