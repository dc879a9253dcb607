-- Answers the goals of `hold`.
use Rattle.ckpt_terms.proofs.Imports.{ℕ, List, sym, ap, ◌∙◌, eqb, list_any, Span, names_of}
use Rattle.ckpt_terms.proofs.{SpanLemmas.in_spans, RangeLemmas.found_is}
use Rattle.ckpt_terms.proofs.names.hold.Goals as goal

pub returns : goal.returns
returns c =
    let xs : List Span = c.args.ranges.now in
    let n : ℕ = c.name.inside.0 in
    c.is_some.ensures ∙ found_is xs n c.range_with.result c.range_with.ensures.some c.range_with.ensures.none ∙ sym (in_spans n xs) ∙ ap (λ m. list_any (λ g. eqb m g) (names_of xs)) c.name.view_is
