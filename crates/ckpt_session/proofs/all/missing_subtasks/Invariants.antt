-- The loop invariants of `missing_subtasks`.
use Rattle.ckpt_session.proofs.{◌≡◌, take, not, filter, subtasks, has_acknowledged}
use Rattle.ckpt_session.proofs.all.missing_subtasks.Given as goal

abbrev pub invariant-loop-place : goal.invariant-loop-place
invariant-loop-place l = l.missing.items ≡ filter (λ s. not (has_acknowledged l.metadata s)) (take l.place (subtasks l.metadata.shape))
