-- Answers the goals of `spend`.
use Rattle.ckpt_terms.proofs.Imports.{sym}
use Rattle.ckpt_terms.proofs.TermLemmas.{stays}
use Rattle.ckpt_terms.proofs.spending.spend.Goals as goal

pub returns-in_default : goal.returns-in_default
returns-in_default c = stays c.args.names.now c.args.call.now (sym c.if-ends.ensures) (c.fresh_of.ensures.none c.in_default.is)
