-- The loop invariants of `without_calls`.
use Rattle.ckpt_workers.proofs.{All, [], map, ◌≡◌}
use Rattle.ckpt_workers.proofs.threads.without_calls.Given as goal

abbrev pub invariant-loop-pass : goal.invariant-loop-pass
invariant-loop-pass l =
    (goal.iterator-loop-pass).can_next l.pass-iterator
    × (goal.iterator-loop-pass).is_finite l.pass-iterator
    × (map (λ s. s.pass) l.shares.items ≡ l.yielded)
    × All (λ s. s.calls.items ≡ []) l.shares.items
