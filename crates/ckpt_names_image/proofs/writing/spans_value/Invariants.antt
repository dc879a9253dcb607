-- The loop invariants of `spans_value`.
use Rattle.ckpt_names_image.proofs.Names.{◌≡◌, map, take, span_data, view}
use Rattle.ckpt_names_image.proofs.writing.spans_value.Given as goal

abbrev pub invariant-loop-span : goal.invariant-loop-span
invariant-loop-span l = map view l.items.items ≡ map span_data (take l.span-index l.spans)
