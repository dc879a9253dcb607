-- Answers the goals of `worked_told`.
use Rattle.ckpt_ledger.proofs.WorkedTelling.{are_attempts, are_last, are_told, is_task}
use Rattle.ckpt_ledger.proofs.laws.worked_told.Goals as goal

pub returns : goal.returns
returns c = record { are_attempts = are_attempts; are_last = are_last; is_task = is_task; are_told = are_told }
