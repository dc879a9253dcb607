-- Answers the goals of `range_with`.
use Rattle.ckpt_terms.proofs.Imports.{rules, of_calls, ℕ, List, leb, get_or, arith, ◌∙◌, sym, leb-true, leb-false, always_returns_same, IsPartitionedBy-leb, Span}
use Rattle.ckpt_terms.proofs.{SpanLemmas.span, RangeLemmas.at_place, RangeLemmas.ends_rise, RangeLemmas.none_has}
use Rattle.ckpt_terms.proofs.names.range_with.Goals as goal

pub returns-then-place-spans-clause-none : goal.returns-then-place-spans-clause-none
returns-then-place-spans-clause-none c _ =
    let xs : List Span = c.args.spans.now in
    let d : Span = span 0 0 in
    let name : ℕ = c.args.name in
    let i : ℕ = c.partition_point-place.result in
    let point = c.partition_point-place.ensures.partitioned (λ (s : Span). leb s.to name) (always_returns_same _ _ _ (λ a r f k. search (rules, of_calls)))
    (IsPartitionedBy-leb (λ (s : Span). s.to) xs name (ends_rise xs c.requires)) in
    none_has xs i name d c.requires
    (λ k l. leb-true (get_or xs k d).to name (point.0 k d (omega arith) l))
    (λ l. absurd (omega arith))

pub returns-then-has-clause-some : goal.returns-then-has-clause-some
returns-then-has-clause-some c = at_place c.args.spans.now c.partition_point-place.result c.args.name (span 0 0) (omega arith) (sym c.has.ensures ∙ c.if-has.true)

pub returns-else-has-clause-none : goal.returns-else-has-clause-none
returns-else-has-clause-none c _ =
    let xs : List Span = c.args.spans.now in
    let d : Span = span 0 0 in
    let name : ℕ = c.args.name in
    let i : ℕ = c.partition_point-place.result in
    let point = c.partition_point-place.ensures.partitioned (λ (s : Span). leb s.to name) (always_returns_same _ _ _ (λ a r f k. search (rules, of_calls)))
    (IsPartitionedBy-leb (λ (s : Span). s.to) xs name (ends_rise xs c.requires)) in
    none_has xs i name d c.requires
    (λ k l. leb-true (get_or xs k d).to name (point.0 k d (omega arith) l))
    (λ l. (leb-false (get_or xs i d).to name (point.1 i d (omega arith) l), sym c.has.ensures ∙ c.if-has.false))
