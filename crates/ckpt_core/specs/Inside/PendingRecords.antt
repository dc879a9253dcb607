-- The records that wait for acknowledgements, as a list in rising number.
use Rattle.std.specs.Prelude.{◌≡◌, ℕ, ◌==◌, List, map, count_by, if◌then◌else◌}
use Rattle.ckpt_ids.specs.declared.subtask.SubtaskId.{SubtaskId}
use Rattle.ckpt_ids.specs.Ordered.{IsIn, IsInOrder}
use Rattle.ckpt_ids.specs.Records.{Record, acknowledged}
use Rattle.ckpt_pending.specs.Acknowledging.{IsPending, without_ack}
use Rattle.ckpt_model.specs.State.{is_checkpoint}
use Rattle.ckpt_model.specs.Soundness.{id_before}

-- the records after a subtask acknowledged the one of this number
abbrev pub acked : ℕ → SubtaskId → List ℕ → List Record → List Record
acked id subtask files rs = map (λ r. if r.id == id then acknowledged r subtask files else r) rs

-- the records without the acknowledgement of a subtask in the one of this number
abbrev pub retracted : ℕ → SubtaskId → List Record → List Record
retracted id subtask rs = map (λ r. if r.id == id then without_ack subtask r else r) rs

-- what holds for the pending records, and for the counter beside them
pub record AreKept (records : List Record) (checkpoints : ℕ) : Type 0 where
  pub in_order : IsInOrder id_before records
  pub pending : (r : Record) → IsIn r records → IsPending r
  pub counted : checkpoints ≡ count_by is_checkpoint records
