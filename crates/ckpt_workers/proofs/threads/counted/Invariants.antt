-- The loop invariants of `counted`.
use Rattle.ckpt_workers.proofs.{IsCounting, map}
use Rattle.ckpt_workers.proofs.threads.counted.Given as goal

abbrev pub invariant-loop-place : goal.invariant-loop-place
invariant-loop-place l = IsCounting (map (λ a. a.items) l.answers) l.fn.book l.place l.made
