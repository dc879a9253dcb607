-- The metadata of a record as JSON.
use Rattle.std.specs.Prelude.{ℕ, Bool, true, false, not, List, [], ◌∷◌, ◌++◌, map, filter, length, codes, decimal}
use Rattle.std.specs.List.{list_any}
use Rattle.ckpt_ids.specs.declared.subtask.SubtaskId.{SubtaskId}
use Rattle.ckpt_ids.specs.declared.numbers.Kind.{Kind}
use Rattle.ckpt_ids.specs.declared.numbers.Kind.TheVariants.{Checkpoint, Savepoint}
use Rattle.ckpt_ids.specs.declared.ack.Acked.{Acked}
use Rattle.ckpt_ids.specs.declared.ack.Metadata.{Metadata}
use Rattle.ckpt_ids.specs.Shapes.{same_subtask, subtasks}
use Rattle.serde_json.specs.Data.{Data, number, unsigned, string, array, object, Members, member, no_members}
use Rattle.serde_json.specs.View.{items_of}
use Rattle.serde_json.specs.Written.{compact_text}

abbrev pub natural : ℕ → Data
natural n = number (unsigned n)

abbrev pub list : List Data → Data
list items = array (items_of items)

-- the vertex, a dot, and the index
abbrev pub subtask_bytes : SubtaskId → List ℕ
subtask_bytes s = decimal s.vertex ++ codes "." ++ decimal s.index

abbrev pub kind_name : Kind → List ℕ
kind_name Checkpoint = codes "checkpoint"
kind_name Savepoint = codes "savepoint"

abbrev pub state_name : Bool → List ℕ
state_name true = codes "done"
state_name false = codes "pending"

abbrev pub has_acknowledged : Metadata → SubtaskId → Bool
has_acknowledged m s = list_any (λ a. same_subtask s a.subtask) m.acks

-- the subtasks of the shape that have not acknowledged, in subtask order
unfoldable pub missing_subtasks : Metadata → List SubtaskId
missing_subtasks m = filter (λ s. not (has_acknowledged m s)) (subtasks m.shape)

abbrev pub missing : Metadata → ℕ
missing m = length (missing_subtasks m)

-- the members of an object, in the order of their keys
abbrev pub members : List (List ℕ × Data) → Members
members [] = no_members
members (m ∷ ms) = member m.0 m.1 (members ms)

unfoldable pub ack_data : Acked → Data
ack_data acked = object (members ((codes "files", list (map natural acked.files)) ∷ (codes "subtask", string (subtask_bytes acked.subtask)) ∷ []))

unfoldable pub metadata_data : Metadata → Data
metadata_data m =
    object (members ((codes "acks", list (map ack_data m.acks))
    ∷ (codes "id", natural m.id)
    ∷ (codes "kind", string (kind_name m.kind))
    ∷ (codes "missing", natural (missing m))
    ∷ (codes "shape", list (map natural m.shape))
    ∷ (codes "started", natural m.started)
    ∷ (codes "state", string (state_name m.done))
    ∷ []))

-- the metadata as JSON without spaces
unfoldable pub metadata_bytes : Metadata → List ℕ
metadata_bytes m = compact_text (metadata_data m)
