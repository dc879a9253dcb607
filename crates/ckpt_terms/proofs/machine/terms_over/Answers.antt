-- Answers the goals of `terms_over`.
use Rattle.ckpt_terms.proofs.Imports.{ℕ, List, sym, subst, IsFenced}
use Rattle.ckpt_terms.proofs.{MachineLemmas.named_fenced, TermLemmas.layer}
use Rattle.ckpt_terms.proofs.machine.terms_over.Goals as goal

pub of-requires : goal.of-requires
of-requires c =
    let P : List ℕ → Type 0 = λ xs. IsFenced (layer c.args.core 1 c.args.first_name xs) in
    subst P (sym c.new.ensures) (named_fenced c.args.core c.args.first_name c.mode.ensures.sound c.requires)
