-- The loop invariants of `write_names`.
use Rattle.ckpt_term_lines.proofs.Names.{◌≡◌, ◌++◌, take, string_bytes, All, flat_map, spaced, Fits}
use Rattle.ckpt_term_lines.proofs.writing.write_names.Given as goal

abbrev pub invariant-loop-place : goal.invariant-loop-place
invariant-loop-place l = (string_bytes l.text ≡ string_bytes l.fn.text ++ flat_map spaced (take l.place l.names)) × All Fits (take l.place l.names)
