-- The loop invariant of `replay`.
use Rattle.ckpt_durable.proofs.Names.{◌≡◌, take, fenced_replay}
use Rattle.ckpt_durable.proofs.durable.replay.Given as goal

abbrev pub invariant-loop-call : goal.invariant-loop-call
invariant-loop-call l = l.terms ≡ fenced_replay l.fn.terms (take l.call-index l.calls)
