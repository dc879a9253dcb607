-- The loop invariants of `PendingRecords::note_expired`.
use Rattle.ckpt_core.proofs.{◌≡◌, ◌+◌, ◌≤◌, ◌<◌, ◌^◌, ◌&&◌, ◌++◌, nat_le, length, map, filter, count_by, vec_len, vec_capacity, is_checkpoint, deque_iter_rest}
use Rattle.ckpt_core.proofs.pending_records.PendingRecords.note_expired.Given as goal

abbrev pub invariant-loop-pending : goal.invariant-loop-pending
invariant-loop-pending l = record {
  items : l.ended.items ++ map (λ r. r.id) (filter (λ r. nat_le (r.started + l.timeout) l.moment) (deque_iter_rest l.pending-iterator))
      ≡ l.fn.ended.items ++ map (λ r. r.id) (filter (λ r. nat_le (r.started + l.timeout) l.moment) l.self);
  room : vec_len l.ended + length
      (deque_iter_rest l.pending-iterator) ≤ vec_capacity l.ended;
  capacity : vec_capacity l.ended ≡ vec_capacity l.fn.ended;
  checkpoints : l.checkpoints + count_by (λ r. nat_le (r.started + l.timeout) l.moment && is_checkpoint r) (deque_iter_rest l.pending-iterator)
      ≡ count_by (λ r. nat_le (r.started + l.timeout) l.moment && is_checkpoint r) l.self;
  few : l.checkpoints + length (deque_iter_rest l.pending-iterator) < 2 ^ 63;
}
