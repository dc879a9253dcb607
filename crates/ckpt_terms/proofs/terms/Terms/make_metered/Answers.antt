-- Answers the goals of `Terms::make_metered`.
use Rattle.ckpt_terms.proofs.Imports.{◌≡◌, refl, sym, subst, ap, ◌∙◌, None, Some, Err, Done, Refused, State, refusal, step, step_refused, Make, Fenced, fence, fenced_step}
use Rattle.ckpt_terms.proofs.{Stepping.fenced_off, TermLemmas.layer, TermLemmas.make_on, TermLemmas.make_fenced}
use Rattle.ckpt_terms.specs.declared.call.FencedAnswer.TheVariants as answer
use Rattle.ckpt_terms.proofs.terms.Terms.make_metered.Goals as goal

pub returns-in-Some-clause-done : goal.returns-in-Some-clause-done
returns-in-Some-clause-done c = fenced_off c.args.self.now (Make c.args.term c.args.call.now) c.in-Some.why (sym c.refuses_make.ensures ∙ c.in-Some.is)

pub invariant_of-self : goal.invariant_of-self
invariant_of-self c =
    let m : Fenced = layer c.self.inside.core c.self.inside.term c.self.inside.next_name c.self.inside.unspent in
    let Passes : Fenced → Type 0 = λ m. fence m (Make c.args.term c.args.call.now) ≡ None in
    make_fenced m c.args.term c.args.call.now c.apply_metered.new.self (Done c.in-Ok.reply) c.term_after-self-inside.result c.spend.new.names c.recall_call.ensures
    (subst Passes (sym c.self.view_is) (sym c.refuses_make.ensures ∙ c.in_default.is)) c.in-Ok.ensures.done c.term_after-self-inside.ensures c.spend.ensures c.self.invariant

pub returns-in-Ok-clause-done : goal.returns-in-Ok-clause-done
returns-in-Ok-clause-done c =
    let m : Fenced = layer c.self.inside.core c.self.inside.term c.self.inside.next_name c.self.inside.unspent in
    let Passes : Fenced → Type 0 = λ m. fence m (Make c.args.term c.args.call.now) ≡ None in
    let Goal : Fenced → Type 0 =
    λ m. fenced_step m (Make c.args.term c.args.call.now) ≡
    (layer c.apply_metered.new.self c.term_after-self-inside.result c.self.inside.next_name c.spend.new.names, answer.Made c.term_after-self-inside.result (Done c.in-Ok.reply)) in
    subst Goal c.self.view_is
    (make_on m c.args.term c.args.call.now c.apply_metered.new.self (Done c.in-Ok.reply) c.term_after-self-inside.result c.spend.new.names
    (subst Passes (sym c.self.view_is) (sym c.refuses_make.ensures ∙ c.in_default.is)) c.in-Ok.ensures.done c.term_after-self-inside.ensures c.spend.ensures)

pub returns-in-Err-Refused-clause-done : goal.returns-in-Err-Refused-clause-done
returns-in-Err-Refused-clause-done c =
    let m : Fenced = layer c.self.inside.core c.self.inside.term c.self.inside.next_name c.self.inside.unspent in
    let Passes : Fenced → Type 0 = λ m. fence m (Make c.args.term c.args.call.now) ≡ None in
    let Goal : Fenced → Type 0 =
    λ m. fenced_step m (Make c.args.term c.args.call.now) ≡
    (layer c.apply_metered.new.self c.self.inside.term c.self.inside.next_name c.self.inside.unspent, answer.Made c.self.inside.term (Refused c.in-Err-Refused.why)) in
    let refused : refusal c.self.inside.core c.args.call.now ≡ Some c.in-Err-Refused.why =
    (c.apply_metered.ensures.refused c.in-Err-Refused.why).0 (c.in-Err-Refused.is ∙ ap Err c.in-Err-Refused.field-0-is) in
    let stepped : step c.self.inside.core c.args.call.now ≡ (c.apply_metered.new.self, Refused c.in-Err-Refused.why) =
    step_refused c.self.inside.core c.args.call.now c.in-Err-Refused.why refused ∙ ap (λ (k : State). (k, Refused c.in-Err-Refused.why)) (sym c.in-Err-Refused.ensures.unchanged) in
    subst Goal c.self.view_is
    (make_on m c.args.term c.args.call.now c.apply_metered.new.self (Refused c.in-Err-Refused.why) c.self.inside.term c.self.inside.unspent
    (subst Passes (sym c.self.view_is) (sym c.refuses_make.ensures ∙ c.in_default.is)) stepped refl refl)

pub returns-in-Err-Refused-clause-none : goal.returns-in-Err-Refused-clause-none
returns-in-Err-Refused-clause-none c = c.apply_metered.ensures.kept c.in-Err-Refused.why (c.in-Err-Refused.is ∙ ap Err c.in-Err-Refused.field-0-is)
