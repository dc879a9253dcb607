-- The loop invariants of `compare_all`.
use Rattle.ckpt_locked.proofs.{All, Hand, List, SeenIn, vec_len, ◌++◌, ◌≡◌}
use Rattle.ckpt_locked.proofs.lock.compare_all.Given as goal

abbrev pub invariant-loop-pass : goal.invariant-loop-pass
invariant-loop-pass l =
    (l.seat.table_id ≡ l.initial.seat.table_id) × (l.seat.me ≡ l.initial.seat.me)
    × ((done : List Hand) × (l.initial.passes.items ≡ l.passes.items ++ done) × All (SeenIn l.initial.seat.me.0.found) done)

abbrev pub decreases-loop-pass : goal.decreases-loop-pass
decreases-loop-pass l = vec_len l.passes
