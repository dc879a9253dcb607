-- Answers the goals of `Terms::advance`.
use Rattle.ckpt_terms.proofs.Imports.{◌≡◌, ℕ, ◌+◌, sym, subst, ap, ◌∙◌, None, Some, Err, Done, Refused, State, refusal, step, step_refused, Advance, Fenced, advance_fault, fence, fenced_step}
use Rattle.ckpt_terms.proofs.Imports.{restart}
use Rattle.ckpt_terms.proofs.{Stepping.fenced_off, TermLemmas.advance_done, TermLemmas.advance_done_fenced, TermLemmas.advance_on, TermLemmas.layer}
use Rattle.ckpt_terms.specs.declared.call.FencedAnswer.TheVariants as answer
use Rattle.ckpt_terms.proofs.terms.Terms.advance.Goals as goal

pub returns-in-Some : goal.returns-in-Some
returns-in-Some c =
    let m : Fenced = layer c.self.inside.core c.self.inside.term c.self.inside.next_name c.self.inside.unspent in
    let fault : fence m (Advance c.args.now c.args.term c.args.first) ≡ Some c.in-Some.why =
    ap (λ (n : ℕ). advance_fault n c.args.first) (sym c.max-last.ensures) ∙ sym c.refuses_advance.ensures ∙ c.in-Some.is in
    let Goal : Fenced → Type 0 = λ k. fenced_step k (Advance c.args.now c.args.term c.args.first) ≡ (k, answer.Fenced c.in-Some.why) in
    subst Goal c.self.view_is (fenced_off m (Advance c.args.now c.args.term c.args.first) c.in-Some.why fault)

pub invariant_of-self : goal.invariant_of-self
invariant_of-self c =
    let m : Fenced = layer c.self.inside.core c.self.inside.term c.self.inside.next_name c.self.inside.unspent in
    let passes : fence m (Advance c.args.now c.args.term c.args.first) ≡ None =
    ap (λ (n : ℕ). advance_fault n c.args.first) (sym c.max-last.ensures) ∙ sym c.refuses_advance.ensures ∙ c.in_default.is in
    let stepped : step m.core (restart c.args.now) ≡ (c.apply.new.self, Done c.in-Ok.reply) = ap (step m.core) (sym c.restart.ensures) ∙ c.in-Ok.ensures.done in
    advance_done_fenced m c.args.now c.args.term c.args.first c.apply.new.self c.in-Ok.reply c.max-last.result c.max-self-inside.result c.new.result passes stepped
    c.max-last.ensures c.max-self-inside.ensures c.new.ensures c.self.invariant

pub returns-in-Ok : goal.returns-in-Ok
returns-in-Ok c =
    let m : Fenced = layer c.self.inside.core c.self.inside.term c.self.inside.next_name c.self.inside.unspent in
    let passes : fence m (Advance c.args.now c.args.term c.args.first) ≡ None =
    ap (λ (n : ℕ). advance_fault n c.args.first) (sym c.max-last.ensures) ∙ sym c.refuses_advance.ensures ∙ c.in_default.is in
    let stepped : step m.core (restart c.args.now) ≡ (c.apply.new.self, Done c.in-Ok.reply) = ap (step m.core) (sym c.restart.ensures) ∙ c.in-Ok.ensures.done in
    let Goal : Fenced → Type 0 = λ k. fenced_step k (Advance c.args.now c.args.term c.args.first) ≡
    (layer c.apply.new.self (c.max-last.result + 1) c.max-self-inside.result c.new.result, answer.Made (c.max-last.result + 1) (Done c.in-Ok.reply)) in
    subst Goal c.self.view_is
    (advance_done m c.args.now c.args.term c.args.first c.apply.new.self c.in-Ok.reply c.max-last.result c.max-self-inside.result c.new.result passes stepped
    c.max-last.ensures c.max-self-inside.ensures c.new.ensures)

pub returns-in-Err-Refused : goal.returns-in-Err-Refused
returns-in-Err-Refused c =
    let m : Fenced = layer c.self.inside.core c.self.inside.term c.self.inside.next_name c.self.inside.unspent in
    let passes : fence m (Advance c.args.now c.args.term c.args.first) ≡ None =
    ap (λ (n : ℕ). advance_fault n c.args.first) (sym c.max-last.ensures) ∙ sym c.refuses_advance.ensures ∙ c.in_default.is in
    let refused : refusal m.core c.restart.result ≡ Some c.in-Err-Refused.why = (c.apply.ensures.refused c.in-Err-Refused.why).0 (c.in-Err-Refused.is ∙ ap Err c.in-Err-Refused.field-0-is) in
    let stepped : step m.core (restart c.args.now) ≡ (c.apply.new.self, Refused c.in-Err-Refused.why) =
    ap (step m.core) (sym c.restart.ensures) ∙ step_refused m.core c.restart.result c.in-Err-Refused.why refused
    ∙ ap (λ (k : State). (k, Refused c.in-Err-Refused.why)) (sym c.in-Err-Refused.ensures.unchanged) in
    let Goal : Fenced → Type 0 = λ k. fenced_step k (Advance c.args.now c.args.term c.args.first) ≡
    (layer c.apply.new.self c.self.inside.term c.self.inside.next_name c.self.inside.unspent, answer.Made c.self.inside.term (Refused c.in-Err-Refused.why)) in
    subst Goal c.self.view_is (advance_on m c.args.now c.args.term c.args.first c.apply.new.self (Refused c.in-Err-Refused.why) passes stepped)
