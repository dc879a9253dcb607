-- The uses that the row of each record's holdings stands for.
use Rattle.std.specs.Prelude.{ℕ, ◌+◌, ◌==◌, Bool, List, ◌++◌, count_by, filter, nat_lt, ◌≡◌}
use Rattle.std.specs.List.{flat_map}
use Rattle.std.specs.declared.collections.VecDeque.{VecDeque}
use Rattle.std.specs.declared.alloc.Global.{Global}
use Rattle.ckpt_ids.specs.Places.{AreInOrderBy}
use Rattle.ckpt_ids.specs.Records.{Use, Subtask}
use Rattle.ckpt_ids.specs.declared.subtask.SubtaskId.{SubtaskId}
use Rattle.ckpt_registry.specs.declared.holdings.Holding.{Holding}
use Rattle.ckpt_registry.specs.RecordParts.{Part, files_of}
use Rattle.ckpt_registry.specs.Uses.{triples}

-- what the subtasks of each record acknowledged
abbrev pub Acknowledged : Type 0
Acknowledged = VecDeque Holding Global

-- each number is above all earlier ones
abbrev pub AreRising : List Holding → Type 0
AreRising = AreInOrderBy nat_lt (λ h. h.id)

-- what one record uses
abbrev pub uses_by : ℕ → List Part → List Use
uses_by id parts = flat_map (λ part. triples id (Subtask part.subtask) (files_of part)) parts

-- what one acknowledgement uses
abbrev pub uses_of_ack : ℕ → SubtaskId → List ℕ → List ℕ → List Use
uses_of_ack id subtask fresh reused = triples id (Subtask subtask) (fresh ++ reused)

-- what these records use
abbrev pub uses_in : List Holding → List Use
uses_in held = flat_map (λ h. uses_by h.id h.parts) held

-- the parts of the record of this number
abbrev pub parts_of : Acknowledged → ℕ → List Part
parts_of m id = flat_map (λ h. h.parts) (filter (λ h. h.id == id) m.items)

-- the uses after are those before and these, in any order
abbrev pub Adds : List Use → List Use → List Use → Type 0
Adds before more after = (p : Use → Bool) → count_by p after ≡ count_by p before + count_by p more

-- each record keeps its parts, and may have got more
abbrev pub Extends : Acknowledged → Acknowledged → Type 0
Extends before after = (id : ℕ) → (more : List Part) × (parts_of after id ≡ parts_of before id ++ more)
