-- Answers the goals of `run_once`.
use Rattle.ckpt_task.proofs.Names.{◌≡◌, ◌∙◌, List, ◌∷◌, ap, refl, subst, sym, inr, Held, Program, Turn, on_each_error, Deed, Came, IsPart, deeds_after, Around, IsStopped, around, SinkAt}
use Rattle.ckpt_task.proofs.Names.{after_turn, IsSaved, Next, Outcome}
use Rattle.ckpt_task.proofs.Doing.{came_next, has_turned, turned_as}
use Rattle.ckpt_task.proofs.sink_task.SinkTask.run_once.Goals as goal

pub returns-clause-turned : goal.returns-clause-turned
returns-clause-turned g c =
    let p : Program = g.P.Program.program in
    let m : SinkAt = c.args.self.now in
    let next : Next = c.in-Some.next in
    let outcome : Outcome = c.in_ok-outcome.outcome in
    let x : Around = around m.task (g.C.Channels.deeds c.args.channels.now) (g.S.Snapshots.saved c.args.snapshots.now) (g.S.Snapshots.refused c.args.snapshots.now) in
    let y : Around = around c.turn.new.self.task (g.C.Channels.deeds c.carry_out.new.channels) (g.S.Snapshots.saved c.turn.new.snapshots) (g.S.Snapshots.refused c.turn.new.snapshots) in
    let k = turned_as p (λ (turn : Turn). (after_turn p m turn).waiting) x y next outcome (record {
      deeds = c.in_ok-carry_out.ensures.done ∙ ap (deeds_after outcome) (came_next (g.C.Channels.deeds c.next.new.self) x.deeds c.in_ok-next.field-0 next c.in_ok-next.ensures.came c.in-Some.is);
      task = c.in_ok-outcome.ensures.task;
      put = c.in_ok-outcome.ensures.put;
      held = c.in_ok-outcome.ensures.held;
      cut = c.in_ok-outcome.ensures.cut;
      abandoned = c.in_ok-outcome.ensures.abandoned;
      answered = c.in_ok-outcome.ensures.answered;
      saved = subst (λ (h : Held). IsSaved outcome m.task.state h.waiting x.saved y.saved) c.in_ok-outcome.ensures.ledger c.in_ok-outcome.ensures.snapshot;
      refused = c.in_ok-outcome.ensures.refusal;
    }) in
    record {
      one = k.0;
      held = c.in_ok-outcome.ensures.ledger ∙ ap (after_turn p m) (sym k.1);
      output = c.in_ok-outcome.ensures.output;
    }

pub returns-in_err-carry_out-clause-stopped : goal.returns-in_err-carry_out-clause-stopped
returns-in_err-carry_out-clause-stopped g c =
    let p : Program = g.P.Program.program in
    let m : SinkAt = c.args.self.now in
    let next : Next = c.in-Some.next in
    let outcome : Outcome = c.in_ok-outcome.outcome in
    let x : Around = around m.task (g.C.Channels.deeds c.args.channels.now) (g.S.Snapshots.saved c.args.snapshots.now) (g.S.Snapshots.refused c.args.snapshots.now) in
    let all : List Deed = deeds_after outcome (Came next ∷ x.deeds) in
    let y : Around = around c.turn.new.self.task all (g.S.Snapshots.saved c.turn.new.snapshots) (g.S.Snapshots.refused c.turn.new.snapshots) in
    let now : List Deed = g.C.Channels.deeds c.carry_out.new.channels in
    let came : g.C.Channels.deeds c.next.new.self ≡ Came next ∷ x.deeds = came_next (g.C.Channels.deeds c.next.new.self) x.deeds c.in_ok-next.field-0 next c.in_ok-next.ensures.came c.in-Some.is in
    let z : Around = around c.turn.new.self.task (g.C.Channels.deeds c.carry_out.new.channels) (g.S.Snapshots.saved c.turn.new.snapshots) (g.S.Snapshots.refused c.turn.new.snapshots) in
    on_each_error _ (IsStopped g.P.Program.program (λ (turn : Turn). (after_turn g.P.Program.program c.args.self.now turn).waiting) x z)
    (inr (record {
      next = next;
      all = all;
      turned = has_turned p (λ (turn : Turn). (after_turn p m turn).waiting) x y next outcome (record {
        deeds = refl;
        task = c.in_ok-outcome.ensures.task;
        put = c.in_ok-outcome.ensures.put;
        held = c.in_ok-outcome.ensures.held;
        cut = c.in_ok-outcome.ensures.cut;
        abandoned = c.in_ok-outcome.ensures.abandoned;
        answered = c.in_ok-outcome.ensures.answered;
        saved = subst (λ (h : Held). IsSaved outcome m.task.state h.waiting x.saved y.saved) c.in_ok-outcome.ensures.ledger c.in_ok-outcome.ensures.snapshot;
        refused = c.in_ok-outcome.ensures.refusal;
      });
      part = subst (λ (l : List Deed). IsPart l now (deeds_after outcome l)) came c.in_err-carry_out.ensures.stopped;
    }))
