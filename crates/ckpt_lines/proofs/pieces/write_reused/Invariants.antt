-- The loop invariants of `write_reused`.
use Rattle.ckpt_lines.proofs.{◌≡◌, ◌++◌, take, string_bytes, All, flat_map, Fits, reused_text}
use Rattle.ckpt_lines.proofs.pieces.write_reused.Given as goal

abbrev pub invariant-loop-place : goal.invariant-loop-place
invariant-loop-place l = (string_bytes l.text ≡ string_bytes l.fn.text ++ flat_map reused_text (take l.place l.files)) × All Fits (take l.place l.files)
