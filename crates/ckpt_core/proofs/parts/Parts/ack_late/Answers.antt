-- The unknown files are those of the step, and memory is wanted only if there are any.
use Rattle.ckpt_core.proofs.{◌∙◌, ap, sym, length, arith, accepted_ack, state_of, on_each_error}
use Rattle.ckpt_core.proofs.Acknowledging.Late.{late_wants, unknown_counted, unknown_distinct, unknown_new, late_answers}
use Rattle.ckpt_core.proofs.parts.Parts.ack_late.Goals as goal

pub returns-in_err-unknown-clause-memory : goal.returns-in_err-unknown-clause-memory
returns-in_err-unknown-clause-memory c =
    on_each_error c.from_residual.result _ (late_wants _ _ _ _ _ _ c.requires.sound.tied c.requires.accepted c.requires.ended
    (unknown_counted c.args.self.now c.args.fresh.now c.in_err-unknown.ensures.memory))

pub put_unknown-requires-clause-distinct : goal.put_unknown-requires-clause-distinct
put_unknown-requires-clause-distinct c = unknown_distinct _ _ _ _ _ _ _ c.requires.accepted (c.deref.ensures.value ∙ c.in_ok-unknown.ensures.ok)

pub put_unknown-requires-clause-unknown : goal.put_unknown-requires-clause-unknown
put_unknown-requires-clause-unknown c = unknown_new c.args.self.now c.args.fresh.now c.deref.result.now (c.deref.ensures.value ∙ c.in_ok-unknown.ensures.ok)

pub returns-in_err-put_unknown-clause-memory : goal.returns-in_err-put_unknown-clause-memory
returns-in_err-put_unknown-clause-memory c =
    on_each_error c.from_residual-in_err-put_unknown.result _ (late_wants _ _ _ _ _ _ c.requires.sound.tied
    c.requires.accepted c.requires.ended (omega (arith, ap length (c.deref.ensures.value ∙ c.in_ok-unknown.ensures.ok), c.in_err-put_unknown.ensures.memory)))

pub see-requires : goal.see-requires
see-requires c = (accepted_ack (state_of c.args.self.now) c.args.now c.args.id c.args.subtask c.args.fresh.now c.args.reused.now c.requires.accepted).moment

pub returns-clause-ok : goal.returns-clause-ok
returns-clause-ok c =
    late_answers _ _ _ _ _ _ _ _ _ _ c.requires.sound c.requires.accepted c.requires.ended (c.deref.ensures.value ∙ c.in_ok-unknown.ensures.ok) c.in_ok-put_unknown.ensures.ok
    c.in_ok-put_unknown.ensures.spare c.see.ensures (c.len.ensures ∙ sym c.deref.ensures.len)
