-- The loop invariants of `InOrderTeam::make`.
use Rattle.ckpt_workers.proofs.{IsTeamwork, calls_of, length, ◌++◌, ◌≡◌}
use Rattle.ckpt_workers.proofs.team.InOrderTeam.make.Given as goal

abbrev pub invariant-loop-call : goal.invariant-loop-call
invariant-loop-call l =
    (goal.iterator-loop-call).can_next l.call-iterator
    × (goal.iterator-loop-call).is_finite l.call-iterator
    × (l.place ≡ length l.yielded)
    × IsTeamwork l.fn.book l.yielded l.threads l.made
    × (calls_of l.made.book.entries ≡ calls_of l.fn.book.entries ++ l.yielded)
