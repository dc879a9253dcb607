-- The loop invariants of `work`.
use Rattle.ckpt_workers.proofs.{Exchange, IsShift, List, answers_in, calls_in, ◌≡◌}
use Rattle.ckpt_workers.proofs.shares.work.Given as goal

abbrev pub invariant-loop-call : goal.invariant-loop-call
invariant-loop-call g l =
    (goal.iterator-loop-call g).can_next l.call-iterator
    × (goal.iterator-loop-call g).is_finite l.call-iterator
    × ((told : List Exchange) × IsShift l.fn.share.pass told l.pass × (calls_in told ≡ l.yielded) × (answers_in told ≡ l.answers.items))
