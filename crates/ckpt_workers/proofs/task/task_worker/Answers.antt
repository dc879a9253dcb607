-- Answers the goals of `task_worker`.
use Rattle.ckpt_workers.proofs.{IsTasked-push}
use Rattle.ckpt_workers.proofs.task.task_worker.Goals as goal

pub loop-preserved : goal.loop-preserved
loop-preserved g c =
    let count = c.count.ensures in (
      tt,
      tt,
      IsTasked-push c.args.pass c.loop.pass c.ask-next.result.0 c.loop.tally c.count.new.self c.into_call.result c.ask-next.result.1 c.loop.invariant.2 c.into_call.ensures.order c.ask-next.ensures
          count.accepted count.late count.refused,
    )
