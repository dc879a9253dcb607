-- Answers the goals of `count_names`.
use Rattle.ckpt_terms.proofs.Imports.{◌≤◌, ◌<◌, List, get_or, arith, Span}
use Rattle.ckpt_terms.proofs.Counted.{none_counted, more_counted, all_counted, is_some, is_behind, ends_within}
use Rattle.ckpt_terms.proofs.SpanLemmas.{span}
use Rattle.ckpt_terms.proofs.image.count_names.Goals as goal

pub loop-span-init : goal.loop-span-init
loop-span-init c = none_counted

pub loop-span-preserved : goal.loop-span-preserved
loop-span-preserved c = more_counted c.args.ranges.now c.loop-span.span-index c.loop-span.last c.loop-span.held (span 0 0) c.loop-span-test.true c.loop-span.invariant (omega arith) (omega arith)

pub returns-then-span-last-clause-none : goal.returns-then-span-last-clause-none
returns-then-span-last-clause-none c = λ _ a below.
    let xs : List Span = c.args.ranges.now in
    let b : c.loop-span.last ≤ (get_or xs c.loop-span.span-index (span 0 0)).from =
    is_behind xs c.loop-span.span-index c.loop-span.last c.loop-span.held (span 0 0) c.loop-span-test.true c.loop-span.invariant a in
    omega arith

pub returns-then-span-clause-none : goal.returns-then-span-clause-none
returns-then-span-clause-none c = λ _ a below.
    let xs : List Span = c.args.ranges.now in
    let s : Span = get_or xs c.loop-span.span-index (span 0 0) in
    let b : s.from < s.to = is_some xs c.loop-span.span-index (span 0 0) c.loop-span-test.true a in
    omega arith

pub returns-then-last-end-clause-some : goal.returns-then-last-end-clause-some
returns-then-last-end-clause-some c = all_counted c.args.ranges.now c.loop-span.span-index c.loop-span.last c.loop-span.held c.args.end c.loop-span-test.false c.loop-span.invariant (omega arith)

pub returns-else-last-end-clause-none : goal.returns-else-last-end-clause-none
returns-else-last-end-clause-none c =
    λ _ a below. ends_within c.args.ranges.now c.loop-span.span-index c.loop-span.last c.loop-span.held c.args.end c.loop-span-test.false c.loop-span.invariant below (omega arith)
