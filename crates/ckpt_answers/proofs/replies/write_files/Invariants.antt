-- The loop invariants of `write_files`.
use Rattle.ckpt_answers.proofs.{◌≡◌, ◌++◌, take, string_bytes, flat_map, spaced}
use Rattle.ckpt_answers.proofs.replies.write_files.Given as goal

abbrev pub invariant-loop-place : goal.invariant-loop-place
invariant-loop-place l = string_bytes l.text ≡ string_bytes l.fn.text ++ flat_map spaced (take l.place l.files)
