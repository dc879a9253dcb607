-- Answers the goals of `answer`.
use Rattle.std.proofs.Common.{◌≡◌, sym, ap, ◌∙◌}
use Rattle.std.specs.Prelude.{Some, Err}
use Rattle.ckpt_ids.specs.declared.reply.Answer.TheVariants.{Refused}
use Rattle.ckpt_model.specs.State.{State}
use Rattle.ckpt_model.specs.Refusals.{refusal}
use Rattle.ckpt_model.specs.Steps.{step}
use Rattle.ckpt_model.proofs.Answering.StepCases.{step_refused}
use Rattle.ckpt_log.specs.Logs.{stepped}
use Rattle.ckpt_log.proofs.log.answer.Goals as goal

pub returns-in-Err-Refused-clause-done : goal.returns-in-Err-Refused-clause-done
returns-in-Err-Refused-clause-done c =
    let refused : refusal c.args.core.now c.args.call.now ≡ Some c.in-Err-Refused.why = (c.apply.ensures.refused c.in-Err-Refused.why).0 (c.in-Err-Refused.is ∙ ap Err c.in-Err-Refused.field-0-is) in
    let done : step c.args.core.now c.args.call.now ≡ (c.apply.new.self, Refused c.in-Err-Refused.why) =
    step_refused c.args.core.now c.args.call.now c.in-Err-Refused.why refused ∙ ap (λ (k : State). (k, Refused c.in-Err-Refused.why)) (sym c.in-Err-Refused.ensures.unchanged) in
    sym (ap stepped done)
