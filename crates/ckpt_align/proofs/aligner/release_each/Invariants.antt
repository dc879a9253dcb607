-- The loop invariant of `release_each`.
use Rattle.std.proofs.Common.{◌≡◌, map, take, drop}
use Rattle.ckpt_align.specs.Alignment.{released}
use Rattle.ckpt_align.proofs.aligner.release_each.Given as goal

-- the inputs so far are released, and those that are left are as they were
abbrev pub invariant-loop-input : goal.invariant-loop-input
invariant-loop-input l = record {
  done : take l.input-index l.inputs ≡ map released (take l.input-index l.fn.inputs);
  left : drop l.input-index l.inputs ≡ drop l.input-index l.fn.inputs;
}
