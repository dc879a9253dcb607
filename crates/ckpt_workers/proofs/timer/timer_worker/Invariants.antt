-- The loop invariants of `timer_worker`.
use Rattle.ckpt_workers.proofs.{IsTimed}
use Rattle.ckpt_workers.proofs.timer.timer_worker.Given as goal

abbrev pub invariant-loop-now : goal.invariant-loop-now
invariant-loop-now g l = IsTimed (g.M.Moments.given l.fn.moments) (g.M.Moments.given l.moments) l.fn.pass l.pass l.tally

abbrev pub decreases-loop-now : goal.decreases-loop-now
decreases-loop-now g l = g.M.Moments.left l.moments
