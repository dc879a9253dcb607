-- Answers the goals of `make`.
use Rattle.ckpt_terms.proofs.Imports.{◌≡◌, sym, ap, ◌∙◌, Some, Err, Refused, State, refusal, Stepped, step, step_refused}
use Rattle.ckpt_terms.specs.declared.call.FencedAnswer.TheVariants as answer
use Rattle.ckpt_terms.specs.declared.machine.Machine.TheVariants as machine
use Rattle.ckpt_terms.proofs.machine.make.Goals as goal

pub returns-in-Err-Refused-clause-done : goal.returns-in-Err-Refused-clause-done
returns-in-Err-Refused-clause-done c =
    let refused : refusal c.args.core.now c.args.call.now ≡ Some c.in-Err-Refused.why = (c.apply_metered.ensures.refused c.in-Err-Refused.why).0 (c.in-Err-Refused.is ∙ ap Err c.in-Err-Refused.field-0-is) in
    let stepped : step c.args.core.now c.args.call.now ≡ (c.apply_metered.new.self, Refused c.in-Err-Refused.why) =
    step_refused c.args.core.now c.args.call.now c.in-Err-Refused.why refused ∙ ap (λ (k : State). (k, Refused c.in-Err-Refused.why)) (sym c.in-Err-Refused.ensures.unchanged) in
    ap (λ (s : Stepped). (machine.Plain s.0, answer.Made 0 s.1)) stepped

pub returns-in-Err-Refused-clause-none : goal.returns-in-Err-Refused-clause-none
returns-in-Err-Refused-clause-none c = c.apply_metered.ensures.kept c.in-Err-Refused.why (c.in-Err-Refused.is ∙ ap Err c.in-Err-Refused.field-0-is)
