-- Answers the goals of `PendingRecords::recall`.
use Rattle.ckpt_core.proofs.pending_records.PendingRecords.recall.Goals as goal

pub returns-clause-pending : goal.returns-clause-pending
returns-clause-pending c = rw (← c.self.view_is) c.self.invariant.pending
