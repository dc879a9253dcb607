-- Answers the goals of `Names::remove_all`.
use Rattle.ckpt_terms.proofs.Imports.{ℕ, List, [], ◌∷◌, ◌++◌, take, sym, ap, ◌∙◌, arith, take_more, without_all}
use Rattle.ckpt_terms.proofs.{SpanLemmas.without_above, RangeLemmas.without_more}
use Rattle.ckpt_terms.proofs.names.Names.remove_all.Goals as goal

pub loop-name-init : goal.loop-name-init
loop-name-init c = sym (without_above [] c.args.self.now (λ y g i k. absurd k))

pub loop-name-preserved : goal.loop-name-preserved
loop-name-preserved c =
    let gone : List ℕ = c.as_slice-numbers.result.now in
    let i : ℕ = c.loop-name.name-index in
    let name : ℕ = c.name-item.result in
    c.remove-near.ensures ∙ ap (without_all (name ∷ [])) c.loop-name.invariant
    ∙ sym (ap (λ g. without_all g c.args.self.now) (take_more gone i name (omega arith) ∙ ap (λ x. take i gone ++ x ∷ []) (sym c.name-item.is)) ∙ without_more (take i gone) name c.args.self.now)
