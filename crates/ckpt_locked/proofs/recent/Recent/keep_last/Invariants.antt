-- The loop invariants of `Recent::keep_last`.
use Rattle.ckpt_locked.proofs.{length, ◌++◌, ◌+◌, ◌-◌, ◌<◌, ◌^◌, ◌≡◌, ◌≤◌}
use Rattle.ckpt_locked.proofs.recent.Recent.keep_last.Given as goal

abbrev pub invariant-loop-self : goal.invariant-loop-self
invariant-loop-self g l =
    (l.self-inside.past ++ l.self-inside.kept.items ≡ l.fn.self.items)
    × (l.self-inside.forgotten ≡ length l.self-inside.past)
    × (l.self-inside.forgotten + length l.self-inside.kept.items < 2 ^ 64)
    × (l.self-inside.forgotten ≤ (l.self-inside.forgotten + length l.self-inside.kept.items) - l.most)
    × (l.self-inside.keep ≡ l.fn.self.keep)
    × (l.most < l.fn.self.keep)

abbrev pub decreases-loop-self : goal.decreases-loop-self
decreases-loop-self g l = l.self-inside.kept.len
