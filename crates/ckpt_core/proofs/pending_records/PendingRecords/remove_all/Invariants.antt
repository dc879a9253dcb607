-- The loop invariants of `PendingRecords::remove_all`.
use Rattle.ckpt_core.proofs.{◌≡◌, ◌==◌, not, filter, take, list_any}
use Rattle.ckpt_core.proofs.pending_records.PendingRecords.remove_all.Given as goal

abbrev pub invariant-loop-id : goal.invariant-loop-id
invariant-loop-id l = l.self ≡ filter (λ r. not (list_any (λ i. r.id == i) (take l.id-index l.ids))) l.initial.self
