-- The first of the pending ones, of the checkpoints or of the savepoints.
use Rattle.ckpt_core.proofs.{◌∙◌, ap, sooner, first_live}
use Rattle.ckpt_core.proofs.parts.Parts.first_from.Goals as goal

pub returns : goal.returns
returns c =
    c.sooner.ensures ∙ ap (sooner c.first_from-pending.result) c.sooner-done.ensures ∙ first_live c.args.self.now c.args.id _ _ _
    c.requires c.first_from-pending.ensures.in_order c.checkpoint_from.ensures.stored.checkpoints_rise c.checkpoint_from.ensures.stored.savepoints_rise c.first_from-pending.ensures.value
    c.checkpoint_from.ensures.value c.savepoint_from.ensures.value
