-- Answers the goals of `fewest`.
use Rattle.ckpt_terms.proofs.Imports.{◌+◌, ℕ, List, take, subst, sym, arith, Span}
use Rattle.ckpt_terms.proofs.{JoinLemmas.AreFewest, JoinLemmas.all_read, JoinLemmas.fewest_of, JoinLemmas.one_more, SpanLemmas.span}
use Rattle.ckpt_terms.proofs.names.fewest.Goals as goal

pub loop-span-preserved : goal.loop-span-preserved
loop-span-preserved c =
    let ranges : List Span = c.args.ranges.now in
    let i : ℕ = c.loop-span.span-index in
    let Next : List Span → Type 0 = λ ys. AreFewest ys (take (i + 1) ranges) in (
      subst Next (sym c.join.ensures.items) (one_more c.loop-span.spans.items ranges i (span 0 0) c.loop-span-test.true c.requires c.loop-span.invariant.0),
      omega (arith, c.join.ensures.len, c.loop-span.invariant.1),
      omega (arith, c.join.ensures.capacity, c.loop-span.invariant.2),
    )

pub returns-clause-fewest : goal.returns-clause-fewest
returns-clause-fewest c =
    let ranges : List Span = c.args.ranges.now in
    let few : AreFewest c.loop-span.spans.items ranges = all_read c.loop-span.spans.items ranges c.loop-span.span-index (omega arith) c.loop-span.invariant.0 in
    fewest_of c.loop-span.spans.items ranges few
