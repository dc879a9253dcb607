-- Answers the goals of `Parts::start_or_hold`.
use Rattle.ckpt_rules.specs.declared.hold.Hold.TheVariants as hold
use Rattle.ckpt_core.proofs.{on_each_error, ap, held_result, starts_now, Names.state_of, Names.start_or_hold}
use Rattle.ckpt_core.proofs.parts.Parts.start_or_hold.Goals as goal

pub returns-in_err-id-in-Go-clause-memory : goal.returns-in_err-id-in-Go-clause-memory
returns-in_err-id-in-Go-clause-memory c = on_each_error c.from_residual.result _ (held_result c.args.self.now c.args.pending _ _ _ c.read-moment.ensures.value c.held.ensures c.in-Go.is)

pub returns-in-Interval-clause-ok : goal.returns-in-Interval-clause-ok
unfolding start_or_hold state_of
returns-in-Interval-clause-ok c =
    λ expired. ap (start_or_hold (state_of c.args.self.now) expired) (held_result c.args.self.now c.args.pending _ _ _ c.read-moment.ensures.value c.held.ensures c.in-Interval.is)

pub returns-in-AtOnce-clause-ok : goal.returns-in-AtOnce-clause-ok
unfolding start_or_hold state_of
returns-in-AtOnce-clause-ok c =
    λ expired. ap (start_or_hold (state_of c.args.self.now) expired) (held_result c.args.self.now c.args.pending _ _ _ c.read-moment.ensures.value c.held.ensures c.in-AtOnce.is)

pub returns-in-Pause-clause-ok : goal.returns-in-Pause-clause-ok
unfolding start_or_hold state_of
returns-in-Pause-clause-ok c =
    λ expired. ap (start_or_hold (state_of c.args.self.now) expired) (held_result c.args.self.now c.args.pending _ _ _ c.read-moment.ensures.value c.held.ensures c.in-Pause.is)

pub trigger-requires-clause-sound : goal.trigger-requires-clause-sound
unfolding state_of
trigger-requires-clause-sound c = c.requires.sound

pub returns-in_err-id-in-Go-clause-err : goal.returns-in_err-id-in-Go-clause-err
unfolding state_of
returns-in_err-id-in-Go-clause-err c = on_each_error c.from_residual.result _ c.in_err-id-in-Go.ensures.err

pub returns-in_ok-id-in-Go-clause-ok : goal.returns-in_ok-id-in-Go-clause-ok
unfolding state_of
returns-in_ok-id-in-Go-clause-ok c =
    starts_now c.args.self.now c.trigger.new.self c.triggered.new.self c.args.pending c.read-moment.result c.in_ok-id-in-Go.id (held_result c.args.self.now c.args.pending _ _ _
    c.read-moment.ensures.value c.held.ensures c.in-Go.is) c.in_ok-id-in-Go.ensures.ok c.in_ok-id-in-Go.ensures.id c.read-moment.ensures.value c.triggered.ensures
