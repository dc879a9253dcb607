-- The loop invariants of `PendingRecords::note_subsumed`.
use Rattle.ckpt_core.proofs.{◌≡◌, ◌+◌, ◌≤◌, ◌&&◌, ◌++◌, nat_lt, length, map, filter, vec_len, vec_capacity, is_checkpoint, deque_iter_rest}
use Rattle.ckpt_core.proofs.pending_records.PendingRecords.note_subsumed.Given as goal

abbrev pub invariant-loop-pending : goal.invariant-loop-pending
invariant-loop-pending l = record {
  items : l.ended.items ++ map (λ r. r.id) (filter (λ r. is_checkpoint r && nat_lt r.id l.id) (deque_iter_rest l.pending-iterator))
      ≡ l.fn.ended.items ++ map (λ r. r.id) (filter (λ r. is_checkpoint r && nat_lt r.id l.id) l.self);
  room : vec_len l.ended + length (deque_iter_rest l.pending-iterator) ≤ vec_capacity l.ended;
  capacity : vec_capacity l.ended ≡ vec_capacity l.fn.ended;
}
