-- The loop invariant of `open_each`.
use Rattle.relkvanu_barriers.proofs.Imports.{◌≡◌, map, take, length, replicate, Open, input_of}
use Rattle.relkvanu_barriers.proofs.aligning.open_each.Given as goal

-- the inputs so far are open
abbrev pub invariant-loop-input : goal.invariant-loop-input
invariant-loop-input l = record {
  done : map input_of (take l.input-index l.inputs) ≡ replicate l.input-index Open;
  as_long : length l.inputs ≡ length l.fn.inputs;
}
