-- The loop invariants of `files_pinned`.
use Rattle.ckpt_registry.proofs.{◌≡◌, take, named_by}
use Rattle.ckpt_registry.proofs.pins.files_pinned.Given as goal

abbrev pub invariant-loop-one : goal.invariant-loop-one
invariant-loop-one l = record {
  items : l.all.items ≡ named_by l.acknowledged l.id (take l.one-index l.pinned);
  none : l.meter ≡ l.fn.meter;
}
