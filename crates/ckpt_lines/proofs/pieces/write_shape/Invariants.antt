-- The loop invariants of `write_shape`.
use Rattle.ckpt_lines.proofs.{◌≡◌, ◌++◌, take, string_bytes, All, flat_map, spaced, Fits}
use Rattle.ckpt_lines.proofs.pieces.write_shape.Given as goal

abbrev pub invariant-loop-vertex : goal.invariant-loop-vertex
invariant-loop-vertex l = (string_bytes l.text ≡ string_bytes l.fn.text ++ flat_map spaced (take l.vertex l.shape)) × All Fits (take l.vertex l.shape)
