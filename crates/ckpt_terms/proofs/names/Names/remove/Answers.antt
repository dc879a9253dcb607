-- Answers the goals of `Names::remove`.
use Rattle.ckpt_terms.proofs.Imports.{◌≡◌, ℕ, List, [], ◌∷◌, false, subst, list_any, Span, without_all, in_span, names_of}
use Rattle.ckpt_terms.proofs.RangeLemmas.{absent_stays}
use Rattle.ckpt_terms.proofs.names.Names.remove.Goals as goal

pub returns-in_default : goal.returns-in_default
returns-in_default c =
    let xs : List Span = c.self.inside.spans.items in
    let n : ℕ = c.name.inside.0 in
    let None_has : List Span → Type 0 = λ ys. list_any (in_span n) ys ≡ false in
    let At : ℕ → Type 0 = λ m. names_of xs ≡ without_all (m ∷ []) (names_of xs) in
    let Of : List ℕ → Type 0 = λ names. names ≡ without_all (c.args.name ∷ []) names in
    subst Of c.self.view_is (subst At c.name.view_is (absent_stays xs n (subst None_has c.deref.ensures.value (c.range_near.ensures.none c.in_default.is))))
