-- The loop invariants of `deal`.
use Rattle.ckpt_workers.proofs.{IsDeal, length, map, ◌≡◌}
use Rattle.ckpt_workers.proofs.threads.deal.Given as goal

abbrev pub invariant-loop-call : goal.invariant-loop-call
invariant-loop-call l =
    (goal.iterator-loop-call).can_next l.call-iterator
    × (goal.iterator-loop-call).is_finite l.call-iterator
    × (l.place ≡ length l.yielded)
    × (map (λ s. s.pass) l.shares.items ≡ l.fn.passes.items)
    × IsDeal (map (λ s. s.calls.items) l.shares.items) l.yielded
