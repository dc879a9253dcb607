-- Answers the goals of `Terms::forfeit`.
use Rattle.ckpt_terms.proofs.Imports.{◌≡◌, subst, Forfeit, OldTerm, Fenced, fenced_step}
use Rattle.ckpt_terms.proofs.TermLemmas.{layer, forfeit_off, forfeit_on, forfeit_fenced}
use Rattle.ckpt_terms.specs.declared.call.FencedAnswer.TheVariants as answer
use Rattle.ckpt_terms.proofs.terms.Terms.forfeit.Goals as goal

pub returns-then-term-self : goal.returns-then-term-self
returns-then-term-self c =
    let P : Fenced → Type 0 = λ m. fenced_step m (Forfeit c.args.term c.args.names.now) ≡ (m, answer.Fenced OldTerm) in
    subst P c.self.view_is (forfeit_off (layer c.self.inside.core c.self.inside.term c.self.inside.next_name c.self.inside.unspent) c.args.term c.args.names.now c.if-term-self.true)

pub invariant_of-self : goal.invariant_of-self
invariant_of-self c =
    forfeit_fenced (layer c.self.inside.core c.self.inside.term c.self.inside.next_name c.self.inside.unspent) c.args.names.now c.remove_all.new.self c.remove_all.ensures c.self.invariant

pub returns : goal.returns
returns c =
    let now = c.self.inside in
    let left = c.remove_all.new.self in
    let P : Fenced → Type 0 = λ m. fenced_step m (Forfeit c.args.term c.args.names.now) ≡ (layer now.core now.term now.next_name left, answer.Forfeited) in
    subst P c.self.view_is (forfeit_on (layer now.core now.term now.next_name now.unspent) c.args.term c.args.names.now left c.if-term-self.false c.remove_all.ensures)
