-- Answers the goals of `timer_worker`.
use Rattle.ckpt_workers.proofs.{IsTimed-push}
use Rattle.ckpt_workers.proofs.timer.timer_worker.Goals as goal

pub loop-now-preserved : goal.loop-now-preserved
loop-now-preserved g c =
    let given = g.M.Moments.given in
    let count = c.count.ensures in
    IsTimed-push (given c.args.moments.now) (given c.loop-now.moments) (given c.next.new.self) c.args.pass c.loop-now.pass c.ask-next.result.0 c.loop-now.tally c.count.new.self c.in-Some.now
    c.ask-next.result.1 c.loop-now.invariant c.in-Some.ensures.given c.ask-next.ensures count.ticks count.refused count.unanswered
