-- Answers the goals of `range_near`.
use Rattle.ckpt_terms.proofs.Imports.{arith, ◌∙◌, sym}
use Rattle.ckpt_terms.proofs.{SpanLemmas.span, RangeLemmas.at_place}
use Rattle.ckpt_terms.proofs.names.range_near.Goals as goal

pub returns-then-has-clause-some : goal.returns-then-has-clause-some
returns-then-has-clause-some c = at_place c.args.spans.now c.args.near c.args.name (span 0 0) (omega arith) (sym c.has.ensures ∙ c.if-has.true)
