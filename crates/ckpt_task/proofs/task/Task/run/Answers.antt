-- Answers the goals of `run`.
use Rattle.ckpt_task.proofs.Names.{refl, [], Around, around, waits_none}
use Rattle.ckpt_task.proofs.Doing.{by_true, has_not_run, runs_more}
use Rattle.ckpt_task.proofs.task.Task.run.Goals as goal

pub loop-done-init : goal.loop-done-init
loop-done-init g c =
    has_not_run g.P.Program.program waits_none (around c.args.self.now (g.C.Channels.deeds c.args.channels.now) (g.S.Snapshots.saved c.args.snapshots.now) (g.S.Snapshots.refused c.args.snapshots.now))

pub loop-done-preserved : goal.loop-done-preserved
loop-done-preserved g c =
    let x : Around = around c.args.self.now (g.C.Channels.deeds c.args.channels.now) (g.S.Snapshots.saved c.args.snapshots.now) (g.S.Snapshots.refused c.args.snapshots.now) in
    let y : Around = around c.loop-done.self (g.C.Channels.deeds c.loop-done.channels) (g.S.Snapshots.saved c.loop-done.snapshots) (g.S.Snapshots.refused c.loop-done.snapshots) in
    let z : Around = around c.run_once.new.self (g.C.Channels.deeds c.run_once.new.channels) (g.S.Snapshots.saved c.run_once.new.snapshots) (g.S.Snapshots.refused c.run_once.new.snapshots) in
    runs_more g.P.Program.program waits_none (λ turn. []) c.loop-done.done x y z c.loop-done.invariant (by_true _ c.in_ok-run_once.field-0 c.if-not-branch.false c.in_ok-run_once.ensures.turned) refl
