-- The loop invariants of `task_worker`.
use Rattle.ckpt_workers.proofs.{IsTasked}
use Rattle.ckpt_workers.proofs.task.task_worker.Given as goal

abbrev pub invariant-loop : goal.invariant-loop
invariant-loop g l =
    (goal.iterator-loop g).can_next l.iterator' × (goal.iterator-loop g).is_finite l.iterator'
    × IsTasked l.fn.pass l.pass l.tally
