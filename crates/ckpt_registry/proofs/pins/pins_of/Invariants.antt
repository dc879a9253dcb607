-- The loop invariants of `pins_of`.
use Rattle.ckpt_registry.proofs.{◌≡◌, take, IsLook, pins_of_records}
use Rattle.ckpt_registry.proofs.pins.pins_of.Given as goal

abbrev pub invariant-loop-one : goal.invariant-loop-one
invariant-loop-one l = (l.pins ≡ pins_of_records l.acknowledged l.file (take l.one-index l.pinned)) × IsLook l.acknowledged l.file l.last
