-- The loop of `send_each`.
use Rattle.ckpt_task.proofs.Names.{◌≡◌, drop, after_sends}
use Rattle.ckpt_task.proofs.runner.send_each.Given as goal

abbrev pub invariant-loop-one : goal.invariant-loop-one
invariant-loop-one g l = after_sends (drop l.one-index l.ones) (g.C.Channels.deeds l.channels) ≡ after_sends l.fn.ones (g.C.Channels.deeds l.fn.channels)
