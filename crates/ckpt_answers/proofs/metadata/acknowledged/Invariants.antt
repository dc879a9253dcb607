-- The loop invariants of `acknowledged`.
use Rattle.ckpt_answers.proofs.{◌≡◌, take, count_by, is_subtask}
use Rattle.ckpt_answers.proofs.metadata.acknowledged.Given as goal

abbrev pub invariant-loop-place : goal.invariant-loop-place
invariant-loop-place l = l.count ≡ count_by (λ a. is_subtask l.shape a.subtask) (take l.place l.acks)
