-- Answers the goals of `turn`.
use Rattle.ckpt_task.proofs.Names.{◌≡◌, ◌∙◌, List, ap, subst, Transaction, Saved, SinkAt, after_turn, At, IsSaved, as_turn}
use Rattle.ckpt_task.proofs.Turning.{enters_turn, saved_before}
use Rattle.ckpt_task.proofs.sink_task.SinkTask.turn.Goals as goal

pub returns-in-Ok-enter-clause-ledger : goal.returns-in-Ok-enter-clause-ledger
returns-in-Ok-enter-clause-ledger g c =
    let before : SinkAt = record { task = c.self.inside.task; held = c.self.inside.ledger; output = c.self.inside.output; has_failed = c.self.inside.has_failed } in
    ap (λ (m : SinkAt). m.held) c.in-Ok-enter.ensures.entered
    ∙ enters_turn g.P.Program.program before (as_turn c.args.next) c.in-Ok.outcome c.in-Ok.ensures.emitted c.in-Ok.ensures.cut c.in-Ok.ensures.fresh
    ∙ ap (λ (m : SinkAt). after_turn g.P.Program.program m (as_turn c.args.next)) c.self.view_is

pub returns-in-Ok-enter-clause-snapshot : goal.returns-in-Ok-enter-clause-snapshot
returns-in-Ok-enter-clause-snapshot g c =
    let old : List Saved = g.S.Snapshots.saved c.args.snapshots.now in
    let new : List Saved = g.S.Snapshots.saved c.saved.new.snapshots in
    let same : c.self-2.inside.task ≡ c.step.new.self = ap (λ (m : SinkAt). m.task) (c.self-2.view_is ∙ c.in-Ok-enter.ensures.entered) in
    let waiting : c.waiting.result.now ≡ c.enter.new.self.held.waiting = c.waiting.ensures ∙ ap (λ (m : SinkAt). m.held.waiting) c.self-2.view_is in
    let saved : IsSaved c.saved.result c.self-2.inside.task.state c.enter.new.self.held.waiting old new = subst (λ (ones : List Transaction). IsSaved c.saved.result c.self-2.inside.task.state ones old new) waiting c.saved.ensures.snapshot in
    let before : At = c.self.inside.task in
    subst (λ (m : SinkAt). IsSaved c.saved.result m.task.state c.enter.new.self.held.waiting old new) c.self.view_is
    (saved_before g.P.Program.program before c.self-2.inside.task (as_turn c.args.next) c.in-Ok.outcome c.saved.result c.enter.new.self.held.waiting old new c.saved.ensures.same c.in-Ok.ensures.cut (ap (λ (m : At). m.state) same ∙ c.in-Ok.ensures.state) saved)
