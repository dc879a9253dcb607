-- The loop of `run`.
use Rattle.ckpt_task.proofs.sink_task.SinkTask.run.Given as goal
use Rattle.ckpt_task.proofs.Names.{HasSunk, around}

abbrev pub invariant-loop-done : goal.invariant-loop-done
invariant-loop-done g l =
    HasSunk g.P.Program.program l.done l.fn.self l.self (around l.fn.self.task (g.C.Channels.deeds l.fn.channels) (g.S.Snapshots.saved l.fn.snapshots) (g.S.Snapshots.refused l.fn.snapshots))
    (around l.self.task (g.C.Channels.deeds l.channels) (g.S.Snapshots.saved l.snapshots) (g.S.Snapshots.refused l.snapshots))
