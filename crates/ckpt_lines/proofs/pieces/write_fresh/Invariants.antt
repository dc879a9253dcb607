-- The loop invariants of `write_fresh`.
use Rattle.ckpt_lines.proofs.{◌≡◌, ◌++◌, take, string_bytes, All, flat_map, Fits, fresh_text}
use Rattle.ckpt_lines.proofs.pieces.write_fresh.Given as goal

abbrev pub invariant-loop-place : goal.invariant-loop-place
invariant-loop-place l = (string_bytes l.text ≡ string_bytes l.fn.text ++ flat_map fresh_text (take l.place l.files)) × All Fits (take l.place l.files)
