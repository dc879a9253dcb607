-- Answers the goals of `Pending::files`.
use Rattle.ckpt_pending.proofs.{ascending-from_dedup}
use Rattle.ckpt_pending.proofs.pending.Pending.files.Goals as goal

pub returns-clause-files : goal.returns-clause-files
returns-clause-files c =
    rw (c.of.ensures, ← c.self.view_is, ← c.in_ok-all.ensures.items) (ascending-from_dedup _ _ _ c.sort_unstable.ensures.permutation c.sort_unstable.ensures.sorted c.dedup.ensures.filtered)
