-- The loop invariants of `AllLine::acks`.
use Rattle.ckpt_session.proofs.{◌≡◌, take, acks_for}
use Rattle.ckpt_session.proofs.all.AllLine.acks.Given as goal

abbrev pub invariant-loop-subtask : goal.invariant-loop-subtask
invariant-loop-subtask l = (l.place ≡ l.subtask-index) × (l.acks.items ≡ acks_for l.self (take l.subtask-index l.missing))
