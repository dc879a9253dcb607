-- Records that take acknowledgements, and records that have all of them.
use Rattle.std.specs.Prelude.{◌≡◌, ℕ, true, false, not, List, [], filter, find, Option}
use Rattle.std.specs.Option.{option_map}
use Rattle.ckpt_ids.specs.declared.subtask.SubtaskId.{SubtaskId}
use Rattle.ckpt_ids.specs.declared.numbers.Kind.{Kind}
use Rattle.ckpt_ids.specs.declared.ack.Acked.{Acked}
use Rattle.ckpt_ids.specs.Ordered.{IsIn}
use Rattle.ckpt_ids.specs.Acknowledged.{AreInSubtaskOrder}
use Rattle.ckpt_ids.specs.Records.{Record, has_acknowledged, missing, IsFull}
use Rattle.ckpt_ids.specs.Shapes.{IsShape, is_subtask, same_subtask}

-- a record that waits for acknowledgements, and has these
abbrev pub pending_record : ℕ → Kind → List ℕ → ℕ → List Acked → Record
pending_record id kind shape started acks = record { id = id; kind = kind; done = false; shape = shape; started = started; acks = acks; pins = [] }

-- what an acknowledgement is searched by
abbrev pub subtask_of : Acked → SubtaskId
subtask_of a = a.subtask

-- the record without the acknowledgement of a subtask
abbrev pub without_ack : SubtaskId → Record → Record
without_ack s r = record r { acks = filter (λ a. not (same_subtask s a.subtask)) r.acks }

-- the files that a subtask acknowledged in the record, if it has acknowledged
abbrev pub files_from : Record → SubtaskId → Option (List ℕ)
files_from r s = option_map (λ a. a.files) (find (λ a. same_subtask s a.subtask) r.acks)

-- the record expects the subtask, and has its acknowledgement
abbrev pub HasAlready : Record → SubtaskId → Type 0
HasAlready r subtask = (is_subtask r.shape subtask ≡ true) × (has_acknowledged r subtask ≡ true)

-- the record has this subtask, and waits for it
abbrev pub Expects : Record → SubtaskId → Type 0
Expects r subtask = (is_subtask r.shape subtask ≡ true) × (has_acknowledged r subtask ≡ false)

-- what holds for each record that waits for acknowledgements
pub record IsPending (r : Record) : Type 0 where
  pub not_done : r.done ≡ false
  pub no_pins : r.pins ≡ []
  pub has_shape : IsShape r.shape
  pub in_order : AreInSubtaskOrder r.acks
  -- each acknowledgement comes from a subtask of the shape
  pub expected : (a : Acked) → IsIn a r.acks → is_subtask r.shape a.subtask ≡ true

-- such a record, with the number of subtasks that have not acknowledged
pub record IsCounted (r : Record) (count : ℕ) : Type 0 where
  pub pending : IsPending r
  pub counted : count ≡ missing r

-- what holds for each record that has all of its acknowledgements
pub record IsDone (r : Record) : Type 0 where
  pub is_done : r.done ≡ true
  pub no_pins : r.pins ≡ []
  pub has_shape : IsShape r.shape
  pub in_order : AreInSubtaskOrder r.acks
  pub full : IsFull r
