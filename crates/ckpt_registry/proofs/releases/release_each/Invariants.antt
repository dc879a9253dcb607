-- The loop invariants of `release_each`.
use Rattle.ckpt_registry.proofs.{◌≡◌, [], take, AreReleased, uses_in, pins_in, AreCounted, without}
use Rattle.ckpt_registry.proofs.releases.release_each.Given as goal

abbrev pub invariant-loop-owner : goal.invariant-loop-owner
invariant-loop-owner l = record {
  counted : AreCounted l.uses.acknowledged l.uses.pinned.items l.uses.counts;
  uses : uses_in l.uses.acknowledged.items ≡ without (take l.owner-index l.owners) (uses_in l.fn.uses.acknowledged.items);
  pins : pins_in l.uses.acknowledged l.uses.pinned.items ≡ without l.owners (pins_in l.fn.uses.acknowledged l.fn.uses.pinned.items);
  released : AreReleased l.fn.uses.counts l.fn.released l.uses.counts l.released;
  spare : l.spare ≡ [];
  no_files : l.room.items ≡ [];
}
