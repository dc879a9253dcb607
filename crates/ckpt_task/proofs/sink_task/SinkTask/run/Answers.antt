-- Answers the goals of `run`.
use Rattle.ckpt_task.proofs.Names.{rules, ◌≡◌, ℕ, refl, subst, on_each_error, Around, HasStopped, HasSunk, around, sink_waits}
use Rattle.ckpt_task.proofs.{Doing.by_true, Sinking.has_not_sunk, Sinking.sink_stops, Sinking.sinks_more}
use Rattle.ckpt_task.proofs.sink_task.SinkTask.run.Goals as goal

pub loop-done-init : goal.loop-done-init
loop-done-init g c =
    has_not_sunk g.P.Program.program c.args.self.now (around c.args.self.now.task (g.C.Channels.deeds c.args.channels.now) (g.S.Snapshots.saved c.args.snapshots.now) (g.S.Snapshots.refused c.args.snapshots.now))

pub loop-done-preserved : goal.loop-done-preserved
loop-done-preserved g c =
    let x : Around = around c.args.self.now.task (g.C.Channels.deeds c.args.channels.now) (g.S.Snapshots.saved c.args.snapshots.now) (g.S.Snapshots.refused c.args.snapshots.now) in
    let y : Around = around c.loop-done.self.task (g.C.Channels.deeds c.loop-done.channels) (g.S.Snapshots.saved c.loop-done.snapshots) (g.S.Snapshots.refused c.loop-done.snapshots) in
    let z : Around = around c.run_once.new.self.task (g.C.Channels.deeds c.run_once.new.channels) (g.S.Snapshots.saved c.run_once.new.snapshots) (g.S.Snapshots.refused c.run_once.new.snapshots) in
    sinks_more g.P.Program.program c.loop-done.done c.args.self.now c.loop-done.self c.run_once.new.self x y z refl refl c.loop-done.invariant (by_true _ c.in_ok-run_once.field-0 c.if-not-branch.false c.in_ok-run_once.ensures.turned)

pub returns-clause-ran : goal.returns-clause-ran
returns-clause-ran g c =
    let x : Around = around c.args.self.now.task (g.C.Channels.deeds c.args.channels.now) (g.S.Snapshots.saved c.args.snapshots.now) (g.S.Snapshots.refused c.args.snapshots.now) in
    let y : Around = around c.loop-done.self.task (g.C.Channels.deeds c.loop-done.channels) (g.S.Snapshots.saved c.loop-done.snapshots) (g.S.Snapshots.refused c.loop-done.snapshots) in
    let ends : c.loop-done.done ≡ c.args.turns = search rules in
    subst (λ (n : ℕ). HasSunk g.P.Program.program n c.args.self.now c.loop-done.self x y) ends c.loop-done.invariant

pub returns-in_err-run_once-clause-stopped : goal.returns-in_err-run_once-clause-stopped
returns-in_err-run_once-clause-stopped g c =
    let x : Around = around c.args.self.now.task (g.C.Channels.deeds c.args.channels.now) (g.S.Snapshots.saved c.args.snapshots.now) (g.S.Snapshots.refused c.args.snapshots.now) in
    let y : Around = around c.loop-done.self.task (g.C.Channels.deeds c.loop-done.channels) (g.S.Snapshots.saved c.loop-done.snapshots) (g.S.Snapshots.refused c.loop-done.snapshots) in
    let z : Around = around c.run_once.new.self.task (g.C.Channels.deeds c.run_once.new.channels) (g.S.Snapshots.saved c.run_once.new.snapshots) (g.S.Snapshots.refused c.run_once.new.snapshots) in
    on_each_error c.from_residual.result (HasStopped g.P.Program.program (sink_waits g.P.Program.program c.args.self.now) x z)
    (sink_stops g.P.Program.program c.loop-done.done c.args.self.now c.loop-done.self x y z refl refl c.loop-done.invariant c.in_err-run_once.ensures.stopped)
