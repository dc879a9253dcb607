-- The loop invariants of `handed_value`.
use Rattle.ckpt_image.proofs.{◌≡◌, map, take, view, natural}
use Rattle.ckpt_image.proofs.writing.handed_value.Given as goal

abbrev pub invariant-loop-file : goal.invariant-loop-file
invariant-loop-file l = map view l.items.items ≡ map natural (take l.file-index l.file-items)
