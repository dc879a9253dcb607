-- Answers the goals of `Parts::pending_record`.
use Rattle.ckpt_core.proofs.{pending_of-parts}
use Rattle.ckpt_core.proofs.parts.Parts.pending_record.Goals as goal

pub returns : goal.returns
returns c = pending_of-parts c.args.self.now c.args.id _ c.requires c.get.ensures.pending c.recall_groups.ensures.stored c.get.ensures.value
