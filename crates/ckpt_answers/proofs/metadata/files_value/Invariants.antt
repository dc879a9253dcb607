-- The loop invariants of `files_value`.
use Rattle.ckpt_answers.proofs.{◌≡◌, map, take, view, natural}
use Rattle.ckpt_answers.proofs.metadata.files_value.Given as goal

abbrev pub invariant-loop-file : goal.invariant-loop-file
invariant-loop-file l = map view l.items.items ≡ map natural (take l.file-index l.file-items)
