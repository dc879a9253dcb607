-- Answers the goals of `run_once`.
use Rattle.ckpt_task.proofs.Names.{◌≡◌, ◌∙◌, List, ◌∷◌, ap, refl, subst, sym, inr, [], on_each_error, Deed, Came, IsPart, deeds_after, Around, IsStopped, around, as_turn, turned, Next}
use Rattle.ckpt_task.proofs.Names.{Outcome}
use Rattle.ckpt_task.proofs.Doing.{came_next, has_turned, same_at}
use Rattle.ckpt_task.proofs.task.Task.run_once.Goals as goal

pub returns-clause-turned : goal.returns-clause-turned
returns-clause-turned g c =
    let next : Next = c.in-Some.next in
    let outcome : Outcome = c.in_ok-outcome.outcome in
    let x : Around = around c.args.self.now (g.C.Channels.deeds c.args.channels.now) (g.S.Snapshots.saved c.args.snapshots.now) (g.S.Snapshots.refused c.args.snapshots.now) in
    let y : Around = around c.turn.new.self (g.C.Channels.deeds c.carry_out.new.channels) (g.S.Snapshots.saved c.turn.new.snapshots) (g.S.Snapshots.refused c.turn.new.snapshots) in
    has_turned g.P.Program.program (λ turn. []) x y next outcome (record {
      deeds = c.in_ok-carry_out.ensures.done ∙ ap (deeds_after outcome) (came_next (g.C.Channels.deeds c.next.new.self) x.deeds c.in_ok-next.field-0 next c.in_ok-next.ensures.came c.in-Some.is);
      task = same_at c.turn.new.self (turned g.P.Program.program x.task (as_turn next)) c.in_ok-outcome.ensures.state c.in_ok-outcome.ensures.aligner;
      put = c.in_ok-outcome.ensures.put;
      held = c.in_ok-outcome.ensures.held;
      cut = c.in_ok-outcome.ensures.cut;
      abandoned = c.in_ok-outcome.ensures.abandoned;
      answered = sym c.in_ok-outcome.ensures.refused;
      saved = c.in_ok-outcome.ensures.snapshot;
      refused = c.in_ok-outcome.ensures.refusal;
    })

pub returns-in_err-carry_out-clause-stopped : goal.returns-in_err-carry_out-clause-stopped
returns-in_err-carry_out-clause-stopped g c =
    let next : Next = c.in-Some.next in
    let outcome : Outcome = c.in_ok-outcome.outcome in
    let x : Around = around c.args.self.now (g.C.Channels.deeds c.args.channels.now) (g.S.Snapshots.saved c.args.snapshots.now) (g.S.Snapshots.refused c.args.snapshots.now) in
    let all : List Deed = deeds_after outcome (Came next ∷ x.deeds) in
    let y : Around = around c.turn.new.self all (g.S.Snapshots.saved c.turn.new.snapshots) (g.S.Snapshots.refused c.turn.new.snapshots) in
    let now : List Deed = g.C.Channels.deeds c.carry_out.new.channels in
    let came : g.C.Channels.deeds c.next.new.self ≡ Came next ∷ x.deeds = came_next (g.C.Channels.deeds c.next.new.self) x.deeds c.in_ok-next.field-0 next c.in_ok-next.ensures.came c.in-Some.is in
    let z : Around = around c.turn.new.self (g.C.Channels.deeds c.carry_out.new.channels) (g.S.Snapshots.saved c.turn.new.snapshots) (g.S.Snapshots.refused c.turn.new.snapshots) in
    on_each_error _ (IsStopped g.P.Program.program (λ turn. []) x z)
    (inr (record {
      next = next;
      all = all;
      turned = has_turned g.P.Program.program (λ turn. []) x y next outcome (record {
        deeds = refl;
        task = same_at c.turn.new.self (turned g.P.Program.program x.task (as_turn next)) c.in_ok-outcome.ensures.state c.in_ok-outcome.ensures.aligner;
        put = c.in_ok-outcome.ensures.put;
        held = c.in_ok-outcome.ensures.held;
        cut = c.in_ok-outcome.ensures.cut;
        abandoned = c.in_ok-outcome.ensures.abandoned;
        answered = sym c.in_ok-outcome.ensures.refused;
        saved = c.in_ok-outcome.ensures.snapshot;
        refused = c.in_ok-outcome.ensures.refusal;
      });
      part = subst (λ (l : List Deed). IsPart l now (deeds_after outcome l)) came c.in_err-carry_out.ensures.stopped;
    }))
