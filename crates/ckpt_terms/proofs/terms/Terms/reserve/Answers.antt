-- Answers the goals of `Terms::reserve`.
use Rattle.ckpt_terms.proofs.Imports.{◌≡◌, ◌+◌, sym, subst, ◌∙◌, None, Reserve, Fenced, fence, fenced_step}
use Rattle.ckpt_terms.proofs.{Stepping.fenced_off, TermLemmas.layer, TermLemmas.reserve_on, TermLemmas.reserve_fenced}
use Rattle.ckpt_terms.specs.declared.call.FencedAnswer.TheVariants as answer
use Rattle.ckpt_terms.proofs.terms.Terms.reserve.Goals as goal

pub returns-in-Some-clause-done : goal.returns-in-Some-clause-done
returns-in-Some-clause-done c = fenced_off c.args.self.now (Reserve c.args.term c.args.count) c.in-Some.why (sym c.refuses_reserve.ensures ∙ c.in-Some.is)

pub invariant_of-self-2 : goal.invariant_of-self-2
invariant_of-self-2 c =
    let m : Fenced = layer c.self.inside.core c.self.inside.term c.self.inside.next_name c.self.inside.unspent in
    let P : Fenced → Type 0 = λ m. fence m (Reserve c.args.term c.args.count) ≡ None in
    reserve_fenced m c.args.term c.args.count c.add_metered.new.self (subst P (sym c.self.view_is) (sym c.refuses_reserve.ensures ∙ c.in_default.is)) c.in_ok-add_metered.ensures.ok c.self.invariant

pub returns-clause-done : goal.returns-clause-done
returns-clause-done c =
    let m : Fenced = layer c.self.inside.core c.self.inside.term c.self.inside.next_name c.self.inside.unspent in
    let P : Fenced → Type 0 = λ m. fence m (Reserve c.args.term c.args.count) ≡ None in
    let Q : Fenced → Type 0 =
    λ m. fenced_step m (Reserve c.args.term c.args.count) ≡
    (layer c.self.inside.core c.self.inside.term (c.self.inside.next_name + c.args.count) c.add_metered.new.self, answer.Reserved c.self.inside.next_name) in
    subst Q c.self.view_is (reserve_on m c.args.term c.args.count c.add_metered.new.self (subst P (sym c.self.view_is) (sym c.refuses_reserve.ensures ∙ c.in_default.is)) c.in_ok-add_metered.ensures.ok)
