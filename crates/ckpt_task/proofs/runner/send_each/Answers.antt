-- Answers the goals of `send_each`.
use Rattle.ckpt_task.proofs.Names.{List, on_each_error, Deed, IsUnfinished, after_sends}
use Rattle.ckpt_task.proofs.Stopping.{send_stopped}
use Rattle.ckpt_task.proofs.runner.send_each.Goals as goal

pub returns-in_err-send-clause-stopped : goal.returns-in_err-send-clause-stopped
returns-in_err-send-clause-stopped g c =
    let all : List Deed = after_sends c.args.ones.now (g.C.Channels.deeds c.args.channels.now) in
    let now : List Deed = g.C.Channels.deeds c.send.new.self in
    on_each_error c.from_residual.result (IsUnfinished now all)
    (send_stopped c.loop-one.one-index c.args.ones.now c.one-item.result c.output.result c.element.result (g.C.Channels.deeds c.loop-one.channels) now all c.one-item.is c.loop-one-test.true
    c.output.ensures c.element.ensures c.loop-one.invariant c.in_err-send.ensures.failed)
