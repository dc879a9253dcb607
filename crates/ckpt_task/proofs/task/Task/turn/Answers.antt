-- Answers the goals of `turn`.
use Rattle.ckpt_task.proofs.Names.{[], as_turn}
use Rattle.ckpt_task.proofs.Turning.{saved_before}
use Rattle.ckpt_task.proofs.task.Task.turn.Goals as goal

pub returns-in-Ok-clause-snapshot : goal.returns-in-Ok-clause-snapshot
returns-in-Ok-clause-snapshot g c =
    saved_before g.P.Program.program c.args.self.now c.step.new.self (as_turn c.args.next) c.in-Ok.outcome c.saved.result [] (g.S.Snapshots.saved c.args.snapshots.now) (g.S.Snapshots.saved c.saved.new.snapshots) c.saved.ensures.same c.in-Ok.ensures.cut c.in-Ok.ensures.state c.saved.ensures.snapshot
