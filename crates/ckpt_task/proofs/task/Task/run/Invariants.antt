-- The loop of `run`.
use Rattle.ckpt_task.proofs.task.Task.run.Given as goal
use Rattle.ckpt_task.proofs.Names.{HasRun, around, waits_none}

abbrev pub invariant-loop-done : goal.invariant-loop-done
invariant-loop-done g l =
    HasRun g.P.Program.program waits_none l.done (around l.fn.self (g.C.Channels.deeds l.fn.channels) (g.S.Snapshots.saved l.fn.snapshots) (g.S.Snapshots.refused l.fn.snapshots))
    (around l.self (g.C.Channels.deeds l.channels) (g.S.Snapshots.saved l.snapshots) (g.S.Snapshots.refused l.snapshots))
