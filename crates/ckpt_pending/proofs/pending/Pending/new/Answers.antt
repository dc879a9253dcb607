-- Answers the goals of `Pending::new`.
use Rattle.ckpt_pending.proofs.{IsCounted-new}
use Rattle.ckpt_pending.proofs.pending.Pending.new.Goals as goal

pub invariant_of-result : goal.invariant_of-result
invariant_of-result c = rw c.new.ensures.items (IsCounted-new c.args.id c.args.kind c.args.shape c.args.started c.size-missing.result c.size-missing.ensures.limits c.size-missing.ensures.value)
