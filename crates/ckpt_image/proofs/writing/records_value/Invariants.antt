-- The loop invariants of `records_value`.
use Rattle.ckpt_image.proofs.{◌≡◌, map, take, Saved, record_in, IsIn, view, RecordFits, record_data}
use Rattle.ckpt_image.proofs.writing.records_value.Given as goal

abbrev pub invariant-loop-saved : goal.invariant-loop-saved
invariant-loop-saved l = record {
  written : map view l.items.items ≡ map (λ s. record_data (record_in s)) (take l.saved-index l.records);
  fit : (s : Saved) → IsIn s (take l.saved-index l.records) → RecordFits (record_in s);
}
