-- Checkpoints and savepoints as one flat list of records, and what filters find in it.
use Rattle.std.specs.Prelude.{◌≡◌, ℕ, Bool, true, false, not, ◌&&◌, ◌||◌, nat_lt, ◌==◌, List, ◌++◌, map, filter, flat_map, count_by}
use Rattle.std.specs.List.{list_any}
use Rattle.ckpt_ids.specs.declared.subtask.SubtaskId.{SubtaskId}
use Rattle.ckpt_ids.specs.declared.numbers.Kind.{Kind}
use Rattle.ckpt_ids.specs.declared.ack.Acked.{Acked}
use Rattle.ckpt_ids.specs.declared.ack.Metadata.{Metadata}
use Rattle.ckpt_ids.specs.Acknowledged.{is_before, put_ack}
use Rattle.ckpt_ids.specs.Ascending.{ascending_set}
use Rattle.ckpt_ids.specs.Shapes.{same_subtask, subtasks}

-- A checkpoint or savepoint, pending or done.
-- Source: the Flink documentation, "Checkpoints vs. Savepoints"; the pins are this project's own rule.
pub record Record : Type 0 where
  pub id : ℕ
  pub kind : Kind
  pub done : Bool
  pub shape : List ℕ
  pub started : ℕ
  -- the acknowledgements, in subtask order
  pub acks : List Acked
  -- the files that the record uses until it ends, beside those of its acknowledgements
  pub pins : List ℕ

-- the record with one acknowledgement more
abbrev pub acknowledged : Record → SubtaskId → List ℕ → Record
acknowledged r subtask files = record r { acks = put_ack (record { subtask = subtask; files = files }) r.acks }

abbrev pub has_acknowledged : Record → SubtaskId → Bool
has_acknowledged r s = list_any (λ a. same_subtask s a.subtask) r.acks

-- How many subtasks have not acknowledged.
-- Source: Carbone et al. 2015: a snapshot is complete when each task has taken its part.
abbrev pub missing : Record → ℕ
missing r = count_by (λ s. not (has_acknowledged r s)) (subtasks r.shape)

-- exactly one acknowledgement of each subtask, and no other
abbrev pub IsFull : Record → Type 0
IsFull r = map (λ a. a.subtask) r.acks ≡ subtasks r.shape

-- what holds a file: the acknowledgement of a subtask, or the record itself
pub data Holder : Type 0 where
  Subtask : SubtaskId → Holder
  Pin : Holder

pub record Use : Type 0 where
  pub id : ℕ
  pub holder : Holder
  pub file : ℕ

-- a record's pins come after its subtasks
abbrev pub holder_before : Holder → Holder → Bool
holder_before (Subtask s) (Subtask t) = is_before s t
holder_before (Subtask s) Pin = true
holder_before Pin holder = false

abbrev pub same_holder : Holder → Holder → Bool
same_holder (Subtask s) (Subtask t) = same_subtask s t
same_holder (Subtask s) Pin = false
same_holder Pin (Subtask t) = false
same_holder Pin Pin = true

-- the order of uses: by record, then by holder, then by file
abbrev pub use_before : Use → Use → Bool
use_before u v = nat_lt u.id v.id || ((u.id == v.id) && (holder_before u.holder v.holder || (same_holder u.holder v.holder && nat_lt u.file v.file)))

abbrev pub uses_of : Record → List Use
uses_of r =
    flat_map (λ a. map (λ f. record { id = r.id; holder = Subtask a.subtask; file = f }) a.files) r.acks
    ++ map (λ f. record { id = r.id; holder = Pin; file = f }) r.pins

-- every use of a file by these records
-- Source: this project's own rule: a file's uses are counted per subtask.
abbrev pub uses : List Record → List Use
uses records = flat_map uses_of records

-- how often a file is used
abbrev pub count : List Use → ℕ → ℕ
count us f = count_by (λ u. u.file == f) us

abbrev pub is_present : List Use → ℕ → Bool
is_present us f = nat_lt 0 (count us f)

-- The files that are present before and not after, ascending, each once.
-- Source: the Flink documentation, "State Backends", incremental checkpoints: a shared file stays while a
-- retained checkpoint uses it.
abbrev pub released : List Use → List Use → List ℕ
released before after = filter (λ f. not (is_present after f)) (ascending_set (map (λ u. u.file) before))

abbrev pub metadata_of : Record → Metadata
metadata_of r = record { id = r.id; kind = r.kind; done = r.done; shape = r.shape; started = r.started; acks = r.acks }
