-- Answers the goals of `Done::of`.
use Rattle.ckpt_pending.proofs.{IsDone-from_pending}
use Rattle.ckpt_pending.proofs.done.Done.of.Goals as goal

pub invariant_of-result : goal.invariant_of-result
invariant_of-result c = IsDone-from_pending c.args.full c.requires.pending c.requires.none_missing
