-- The loop invariants of `parted`.
use Rattle.ckpt_workers.proofs.{map, ◌≡◌}
use Rattle.ckpt_workers.proofs.threads.parted.Given as goal

abbrev pub invariant-loop-report : goal.invariant-loop-report
invariant-loop-report l =
    (goal.iterator-loop-report).can_next l.report-iterator
    × (goal.iterator-loop-report).is_finite l.report-iterator
    × (l.passes.items ≡ map (λ r. r.pass) l.yielded)
    × (l.answers.items ≡ map (λ r. r.answers) l.yielded)
