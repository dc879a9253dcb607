-- Answers the goals of `Parts::has_savepoint`.
use Rattle.ckpt_core.proofs.{◌∙◌, sym, done_savepoint-parts}
use Rattle.ckpt_core.proofs.parts.Parts.has_savepoint.Goals as goal

pub returns : goal.returns
returns c = c.has_savepoint.ensures ∙ sym (done_savepoint-parts c.args.self.now c.args.id c.recall_groups.ensures.pending c.recall_groups.ensures.stored)
