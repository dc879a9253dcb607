-- The loop invariants of `all_of`.
use Rattle.ckpt_workers.proofs.{Ok, map, ◌≡◌}
use Rattle.ckpt_workers.proofs.shares.all_of.Given as goal

abbrev pub invariant-loop-outcome : goal.invariant-loop-outcome
invariant-loop-outcome l =
    (goal.iterator-loop-outcome).can_next l.outcome-iterator
    × (goal.iterator-loop-outcome).is_finite l.outcome-iterator
    × (map (λ r. Ok r) l.reports.items ≡ l.yielded)
