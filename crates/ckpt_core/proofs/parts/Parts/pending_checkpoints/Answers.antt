-- Answers the goals of `Parts::pending_checkpoints`.
use Rattle.ckpt_core.proofs.{sym, ◌∙◌, pending_checkpoints-parts}
use Rattle.ckpt_core.proofs.parts.Parts.pending_checkpoints.Goals as goal

pub returns : goal.returns
returns c = c.checkpoints.ensures ∙ sym (pending_checkpoints-parts c.args.self.now c.recall_groups.ensures.pending c.recall_groups.ensures.stored)
