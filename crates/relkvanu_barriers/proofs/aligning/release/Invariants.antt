-- The loop invariant of `release`.
use Rattle.relkvanu_barriers.proofs.Imports.{◌≡◌, map, take, drop, released, input_of}
use Rattle.relkvanu_barriers.proofs.aligning.release.Given as goal

-- the inputs so far are released, and the bytes that are left are as they were
abbrev pub invariant-loop-input : goal.invariant-loop-input
invariant-loop-input l = record {
  done : map input_of (take l.input-index l.inputs) ≡ map released (map input_of (take l.input-index l.fn.inputs));
  left : drop l.input-index l.inputs ≡ drop l.input-index l.fn.inputs;
}
