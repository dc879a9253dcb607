-- The loop invariants of `acks_value`.
use Rattle.ckpt_image.proofs.{◌≡◌, map, take, Acked, IsIn, view, AckFits, ack_data}
use Rattle.ckpt_image.proofs.writing.acks_value.Given as goal

abbrev pub invariant-loop-acked : goal.invariant-loop-acked
invariant-loop-acked l = record {
  written : map view l.items.items ≡ map ack_data (take l.acked-index l.acked-items);
  fit : (a : Acked) → IsIn a (take l.acked-index l.acked-items) → AckFits a;
}
