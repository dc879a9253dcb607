-- The loop invariants of `PendingRecords::least_started`.
use Rattle.ckpt_core.proofs.{◌≡◌, ℕ, ◌||◌, nat_le, list_any, has_come, deque_iter_rest}
use Rattle.ckpt_core.proofs.pending_records.PendingRecords.least_started.Given as goal

abbrev pub invariant-loop-pending : goal.invariant-loop-pending
invariant-loop-pending l = (t : ℕ) → (has_come l.least t || list_any (λ r. nat_le r.started t) (deque_iter_rest l.pending-iterator)) ≡ list_any (λ r. nat_le r.started t) l.self
