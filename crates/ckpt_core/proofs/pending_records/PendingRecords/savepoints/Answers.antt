-- Answers the goals of `PendingRecords::savepoints`.
use Rattle.ckpt_core.proofs.{arith, is_checkpoint, count_by-others}
use Rattle.ckpt_core.proofs.pending_records.PendingRecords.savepoints.Goals as goal

pub returns : goal.returns
returns c = let rs = c.self.inside.records.items in rw (← c.self.view_is) (omega (arith, c.len.ensures, c.self.inside.records.ok.0, c.self.invariant.counted, count_by-others is_checkpoint rs))
