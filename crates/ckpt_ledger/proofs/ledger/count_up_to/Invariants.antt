-- The loop invariant of `count_up_to`.
use Rattle.std.proofs.Common.{◌≡◌, ◌+◌, drop}
use Rattle.ckpt_ledger.proofs.Counting.{count_of}
use Rattle.ckpt_ledger.proofs.ledger.count_up_to.Given as goal

abbrev pub invariant-loop-transaction : goal.invariant-loop-transaction
invariant-loop-transaction l = (l.count ≡ l.transaction-index) × (count_of l.id l.waiting ≡ l.transaction-index + count_of l.id (drop l.transaction-index l.waiting))
