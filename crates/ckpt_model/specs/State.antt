-- The state of a coordinator: one flat list of records, and the two lists of the outbox.
-- Modelled, from memory, on the Flink documentation 1.15 to 1.19 (Checkpointing, Checkpoints, Savepoints, State Backends, Configuration)
-- and on Carbone et al. 2015, "Lightweight Asynchronous Snapshots for Distributed Dataflows"; what names none of them is
-- this project's own rule.
use Rattle.std.specs.Prelude.{◌≡◌, ℕ, ◌+◌, Bool, true, false, not, ◌&&◌, ◌||◌, nat_lt, nat_le, ◌==◌, List, [], ◌∷◌, ◌++◌, map, filter, find, count_by, if◌then◌else◌, Option, Some, None}
use Rattle.std.specs.List.{list_any}
use Rattle.ckpt_ids.specs.Configuration.{Configuration}
use Rattle.ckpt_ids.specs.declared.numbers.Kind.TheVariants as kind
use Rattle.ckpt_ids.specs.declared.reply.Choice.{Choice}
use Rattle.ckpt_ids.specs.declared.reply.Choice.TheVariants as choice
use Rattle.ckpt_model.specs.declared.mode.Mode.{Mode}
use Rattle.ckpt_model.specs.declared.mode.Mode.TheVariants.{Running}
use Rattle.ckpt_ids.specs.Records.{Record, uses, count, is_present, released}
use Rattle.ckpt_ids.specs.Ascending.{ascending_set}
use Rattle.ckpt_rules.specs.Trigger.{gap}
pub use Rattle.ckpt_store.specs.Storing.{choice_from}

-- What a coordinator was opened with. A Configure puts its configuration in the place of the one there, and no other call changes it.
pub record Opening : Type 0 where
  pub config : Configuration
  pub shape : List ℕ
  pub start : ℕ
  pub first : ℕ

pub record State : Type 0 where
  pub opening : Opening
  -- of the records that are triggered next
  pub shape : List ℕ
  pub mode : Mode
  -- the greatest moment seen
  pub latest : ℕ
  pub due : ℕ
  pub completed : Option ℕ
  pub failures : ℕ
  pub next : ℕ
  -- the savepoint that the job was rolled back to
  pub base : Option ℕ
  -- the live records, in rising number
  pub records : List Record
  pub waiting : List ℕ
  pub taken : List ℕ

abbrev pub opened : Opening → State
opened o = record {
  opening = o;
  shape = o.shape;
  mode = Running;
  latest = o.start;
  due = o.start + gap o.config;
  completed = None;
  failures = 0;
  next = o.first;
  base = None;
  records = [];
  waiting = [];
  taken = [];
}

abbrev pub is_checkpoint : Record → Bool
is_checkpoint r = elim r.kind [ kind.Checkpoint ↦ true | kind.Savepoint ↦ false ]

abbrev pub is_pending : Record → Bool
is_pending r = not r.done

abbrev pub record_of : State → ℕ → Option Record
record_of m id = find (λ r. r.id == id) m.records

-- no live record uses the file
abbrev pub IsUnused : State → ℕ → Type 0
IsUnused m f = count (uses m.records) f ≡ 0

-- a file that waits for deletion, or was fetched for it
abbrev pub in_outbox : State → ℕ → Bool
in_outbox m f = list_any (λ g. f == g) (m.waiting ++ m.taken)

-- a name that a new file may not have
abbrev pub is_known : State → ℕ → Bool
is_known m f = is_present (uses m.records) f || in_outbox m f

-- a record that ends no longer pins files
abbrev pub unpinned : Option ℕ → Record → Record
unpinned None r = r
unpinned (Some ended) r = if r.id == ended then record r { pins = [] } else r

-- without the records that pass the test, and without the pins of the record that ended, if one did
abbrev pub kept : (Record → Bool) → Option ℕ → List Record → List Record
kept dropped ended records = map (unpinned ended) (filter (λ r. not (dropped r)) records)

abbrev pub released_by : State → (Record → Bool) → Option ℕ → List ℕ
released_by m dropped ended = released (uses m.records) (uses (kept dropped ended m.records))

-- what is released goes to the end of waiting, all in one ascending list
unfoldable pub drop : State → (Record → Bool) → Option ℕ → State
drop m dropped ended = record m { records = kept dropped ended m.records; waiting = m.waiting ++ released_by m dropped ended }

-- Source: Configuration, execution.checkpointing.timeout.
abbrev pub is_expired : State → ℕ → Record → Bool
is_expired m t r = is_pending r && nat_le (r.started + m.opening.config.timeout) t

-- Source: Checkpoints: a later checkpoint subsumes the earlier pending ones, and no savepoint.
abbrev pub is_subsumed : ℕ → Record → Bool
is_subsumed id r = is_pending r && is_checkpoint r && nat_lt r.id id

abbrev pub is_done_checkpoint : Record → Bool
is_done_checkpoint r = r.done && is_checkpoint r

-- A done checkpoint with as many later ones as are retained.
-- Source: Configuration, state.checkpoints.num-retained.
abbrev pub is_surplus : State → Record → Bool
is_surplus m r = is_done_checkpoint r && nat_le m.opening.config.retained (count_by (λ s. is_done_checkpoint s && nat_lt r.id s.id) m.records)

-- the number of the newest done checkpoint, if there is one: records are in rising number
abbrev pub last_checkpoint : List Record → Option ℕ
last_checkpoint [] = None
last_checkpoint (r ∷ rs) = elim (last_checkpoint rs) [ Some id ↦ Some id | None ↦ if is_done_checkpoint r then Some r.id else None ]

-- What the job would restart from.
-- Source: Checkpoints: the latest completed checkpoint; Savepoints: intermediate ones are not used for recovery.
unfoldable pub choice_of : State → Choice
choice_of m = choice_from (last_checkpoint m.records) m.base

abbrev pub files_of : Option Record → List ℕ
files_of None = []
files_of (Some r) = ascending_set (map (λ u. u.file) (uses (r ∷ [])))

abbrev pub chosen : Choice → State → Option Record
chosen (choice.Checkpoint id) m = record_of m id
chosen (choice.Savepoint id) m = record_of m id
chosen choice.Fresh m = None

-- The files of the choice, which a record that is triggered now holds until it ends
unfoldable pub pins_now : State → List ℕ
pins_now m = files_of (chosen (choice_of m) m)
