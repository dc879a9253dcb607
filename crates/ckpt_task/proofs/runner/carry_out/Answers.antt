-- Answers the goals of `carry_out`.
use Rattle.ckpt_task.proofs.Names.{List, refl, on_each_error, Deed, Acknowledged, Declined, Outcome, IsPart, IsUndone, deeds_after}
use Rattle.ckpt_task.proofs.Stopping.{abandoned_stopped, as_outcome, cut_barrier_stopped, cut_stopped, on_err, take_stopped, unsaved_barrier_stopped, unsaved_stopped}
use Rattle.ckpt_task.proofs.runner.carry_out.Goals as goal
use Rattle.ckpt_task.specs.declared.turn.Outcome.TheVariants as outcome

pub returns-in_err-take-in-Moved-clause-stopped : goal.returns-in_err-take-in-Moved-clause-stopped
returns-in_err-take-in-Moved-clause-stopped g c =
    let o : Outcome = outcome.Moved c.in-Moved.ones in
    let before : List Deed = g.C.Channels.deeds c.args.channels.now in
    let now : List Deed = g.C.Channels.deeds c.take.new.self in
    on_each_error _ (IsPart before now (deeds_after c.args.outcome before)) (as_outcome c.args.outcome o before now c.in-Moved.is (take_stopped o before now refl c.in_err-take-in-Moved.ensures.failed))

pub returns-in_err-take-in-Cut-clause-stopped : goal.returns-in_err-take-in-Cut-clause-stopped
returns-in_err-take-in-Cut-clause-stopped g c =
    let o : Outcome = outcome.Cut c.in-Cut.cut in
    let before : List Deed = g.C.Channels.deeds c.args.channels.now in
    let now : List Deed = g.C.Channels.deeds c.take-in-Cut.new.self in
    on_each_error _ (IsPart before now (deeds_after c.args.outcome before)) (as_outcome c.args.outcome o before now c.in-Cut.is (take_stopped o before now refl c.in_err-take-in-Cut.ensures.failed))

pub returns-in_err-send_barrier-in-Cut-clause-stopped : goal.returns-in_err-send_barrier-in-Cut-clause-stopped
returns-in_err-send_barrier-in-Cut-clause-stopped g c =
    let o : Outcome = outcome.Cut c.in-Cut.cut in
    let before : List Deed = g.C.Channels.deeds c.args.channels.now in
    let mid : List Deed = g.C.Channels.deeds c.take-in-Cut.new.self in
    let now : List Deed = g.C.Channels.deeds c.send_barrier.new.self in
    on_each_error _ (IsPart before now (deeds_after c.args.outcome before))
    (as_outcome c.args.outcome o before now c.in-Cut.is (cut_barrier_stopped c.in-Cut.cut c.id.result before mid now c.id.ensures.value c.in_ok-take-in-Cut.ensures.done c.in_err-send_barrier-in-Cut.ensures.failed))

pub returns-in_ok-send_barrier-in-Cut-clause-stopped : goal.returns-in_ok-send_barrier-in-Cut-clause-stopped
returns-in_ok-send_barrier-in-Cut-clause-stopped g c =
    let o : Outcome = outcome.Cut c.in-Cut.cut in
    let before : List Deed = g.C.Channels.deeds c.args.channels.now in
    let mid : List Deed = g.C.Channels.deeds c.take-in-Cut.new.self in
    let last : List Deed = g.C.Channels.deeds c.send_barrier.new.self in
    let now : List Deed = g.C.Channels.deeds c.acknowledge.new.self in
    on_err (IsUndone (Acknowledged c.in-Cut.cut) last now) (IsPart before now (deeds_after c.args.outcome before)) c.acknowledge.result
    (λ undone. as_outcome c.args.outcome o before now c.in-Cut.is (cut_stopped c.in-Cut.cut c.id.result before mid last now c.id.ensures.value c.in_ok-take-in-Cut.ensures.done c.in_ok-send_barrier-in-Cut.ensures.done undone))
    c.acknowledge.ensures.failed

pub returns-in_err-take-in-Unsaved-clause-stopped : goal.returns-in_err-take-in-Unsaved-clause-stopped
returns-in_err-take-in-Unsaved-clause-stopped g c =
    let o : Outcome = outcome.Unsaved c.in-Unsaved.id in
    let before : List Deed = g.C.Channels.deeds c.args.channels.now in
    let now : List Deed = g.C.Channels.deeds c.take-in-Unsaved.new.self in
    on_each_error _ (IsPart before now (deeds_after c.args.outcome before)) (as_outcome c.args.outcome o before now c.in-Unsaved.is (take_stopped o before now refl c.in_err-take-in-Unsaved.ensures.failed))

pub returns-in_err-send_barrier-in-Unsaved-clause-stopped : goal.returns-in_err-send_barrier-in-Unsaved-clause-stopped
returns-in_err-send_barrier-in-Unsaved-clause-stopped g c =
    let o : Outcome = outcome.Unsaved c.in-Unsaved.id in
    let before : List Deed = g.C.Channels.deeds c.args.channels.now in
    let mid : List Deed = g.C.Channels.deeds c.take-in-Unsaved.new.self in
    let now : List Deed = g.C.Channels.deeds c.send_barrier-in-Unsaved.new.self in
    on_each_error _ (IsPart before now (deeds_after c.args.outcome before))
    (as_outcome c.args.outcome o before now c.in-Unsaved.is (unsaved_barrier_stopped c.in-Unsaved.id before mid now c.in_ok-take-in-Unsaved.ensures.done c.in_err-send_barrier-in-Unsaved.ensures.failed))

pub returns-in_ok-send_barrier-in-Unsaved-clause-stopped : goal.returns-in_ok-send_barrier-in-Unsaved-clause-stopped
returns-in_ok-send_barrier-in-Unsaved-clause-stopped g c =
    let o : Outcome = outcome.Unsaved c.in-Unsaved.id in
    let before : List Deed = g.C.Channels.deeds c.args.channels.now in
    let mid : List Deed = g.C.Channels.deeds c.take-in-Unsaved.new.self in
    let last : List Deed = g.C.Channels.deeds c.send_barrier-in-Unsaved.new.self in
    let now : List Deed = g.C.Channels.deeds c.decline.new.self in
    on_err (IsUndone (Declined c.in-Unsaved.id) last now) (IsPart before now (deeds_after c.args.outcome before)) c.decline.result
    (λ undone. as_outcome c.args.outcome o before now c.in-Unsaved.is (unsaved_stopped c.in-Unsaved.id before mid last now c.in_ok-take-in-Unsaved.ensures.done c.in_ok-send_barrier-in-Unsaved.ensures.done undone))
    c.decline.ensures.failed

pub returns-in_err-take-in-Abandoned-clause-stopped : goal.returns-in_err-take-in-Abandoned-clause-stopped
returns-in_err-take-in-Abandoned-clause-stopped g c =
    let o : Outcome = outcome.Abandoned c.in-Abandoned.id in
    let before : List Deed = g.C.Channels.deeds c.args.channels.now in
    let now : List Deed = g.C.Channels.deeds c.take-in-Abandoned.new.self in
    on_each_error _ (IsPart before now (deeds_after c.args.outcome before)) (as_outcome c.args.outcome o before now c.in-Abandoned.is (take_stopped o before now refl c.in_err-take-in-Abandoned.ensures.failed))

pub returns-in_ok-take-in-Abandoned-clause-stopped : goal.returns-in_ok-take-in-Abandoned-clause-stopped
returns-in_ok-take-in-Abandoned-clause-stopped g c =
    let o : Outcome = outcome.Abandoned c.in-Abandoned.id in
    let before : List Deed = g.C.Channels.deeds c.args.channels.now in
    let mid : List Deed = g.C.Channels.deeds c.take-in-Abandoned.new.self in
    let now : List Deed = g.C.Channels.deeds c.decline-in-Abandoned.new.self in
    on_err (IsUndone (Declined c.in-Abandoned.id) mid now) (IsPart before now (deeds_after c.args.outcome before)) c.decline-in-Abandoned.result
    (λ undone. as_outcome c.args.outcome o before now c.in-Abandoned.is (abandoned_stopped c.in-Abandoned.id before mid now c.in_ok-take-in-Abandoned.ensures.done undone)) c.decline-in-Abandoned.ensures.failed
