-- The loop invariants of `acks_value`.
use Rattle.ckpt_answers.proofs.{◌≡◌, map, take, view, ack_data}
use Rattle.ckpt_answers.proofs.metadata.acks_value.Given as goal

abbrev pub invariant-loop-place : goal.invariant-loop-place
invariant-loop-place l = map view l.items.items ≡ map ack_data (take l.place l.acks)
