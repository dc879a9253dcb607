-- What a job can restart from: its completed checkpoints and savepoints.
use Rattle.std.specs.Prelude.{◌≡◌, ℕ, ◌-◌, ◌^◌, ◌<◌, ◌≤◌, Bool, true, nat_lt, ◌==◌, if◌then◌else◌, List, [], ◌∷◌, ◌++◌, length, drop, min, slice_get, Option, Some, None, IfSome}
use Rattle.std.specs.Option.{option_map}
use Rattle.std.specs.List.{list_any, find}
use Rattle.std.specs.declared.collections.VecDeque.{VecDeque}
use Rattle.std.specs.VecDeque.{deque_len, deque_capacity}
use Rattle.ckpt_ids.specs.declared.numbers.Kind.{Kind}
use Rattle.ckpt_ids.specs.declared.numbers.Kind.TheVariants as kind
use Rattle.ckpt_ids.specs.declared.reply.Choice.{Choice}
use Rattle.ckpt_ids.specs.declared.reply.Choice.TheVariants as choice
use Rattle.ckpt_ids.specs.Ordered.{IsIn, IsInOrder}
use Rattle.ckpt_ids.specs.Records.{Record}
use Rattle.ckpt_pending.specs.Acknowledging.{IsDone}

pub record Stored : Type 0 where
  -- how many completed checkpoints are kept
  pub retained : ℕ
  -- the completed checkpoints, by number
  pub checkpoints : List Record
  -- the completed savepoints, by number
  pub savepoints : List Record
  -- the savepoint that the job was rolled back to, until its next checkpoint completes
  pub base : Option ℕ
  -- how many more records find room without memory
  pub spare : ℕ

-- a store with these queues, each of which has room for the spare ones
abbrev pub stored : {Z : Type 0} → ℕ → VecDeque Record Z → VecDeque Record Z → Option ℕ → Stored
stored retained checkpoints savepoints base = record {
  retained = retained;
  checkpoints = checkpoints.items;
  savepoints = savepoints.items;
  base = base;
  spare = min (deque_capacity checkpoints - deque_len checkpoints) (deque_capacity savepoints - deque_len savepoints);
}

-- the order of numbers
abbrev pub by_id : Record → Record → Bool
by_id r s = nat_lt r.id s.id

-- each number is above all earlier ones
abbrev pub AreRising : List Record → Type 0
AreRising = IsInOrder by_id

-- what a record is searched by
abbrev pub id_of : Record → ℕ
id_of r = r.id

abbrev pub has_id : ℕ → Record → Bool
has_id id r = r.id == id

abbrev pub has_savepoint : Stored → ℕ → Bool
has_savepoint s id = list_any (has_id id) s.savepoints

-- each is done and full, and of this kind
abbrev pub AreDone : Kind → List Record → Type 0
AreDone kind records = (r : Record) → IsIn r records → IsDone r × (r.kind ≡ kind)

-- its number is above all of these
abbrev pub IsAbove : List Record → ℕ → Type 0
IsAbove records id = (r : Record) → IsIn r records → r.id < id

-- what holds for each store
pub record IsStored (s : Stored) : Type 0 where
  pub retained_from : 1 ≤ s.retained
  pub retained_to : s.retained < 2 ^ 32
  pub few : length s.checkpoints ≤ s.retained
  pub checkpoints_rise : AreRising s.checkpoints
  pub checkpoints_done : AreDone kind.Checkpoint s.checkpoints
  pub savepoints_rise : AreRising s.savepoints
  pub savepoints_done : AreDone kind.Savepoint s.savepoints
  pub savepoints_fit : length s.savepoints < 2 ^ 32
  pub base_is_savepoint : IfSome s.base (λ id. has_savepoint s id ≡ true)

-- without the first, if there are more than this many
abbrev pub retained_of : ℕ → List Record → List Record
retained_of count records = if nat_lt count (length records) then drop 1 records else records

-- the number of the first
abbrev pub lowest : List Record → Option ℕ
lowest [] = None
lowest (r ∷ records) = Some r.id

-- the number of the first, if there are more than this many
abbrev pub past_retained : ℕ → List Record → Option ℕ
past_retained count records = if nat_lt count (length records) then lowest records else None

-- the store once this checkpoint is complete, with room for this many more records
abbrev pub completing : Stored → Record → ℕ → Stored
completing s done spare = record s { checkpoints = retained_of s.retained (s.checkpoints ++ done ∷ []); base = None; spare = spare }

-- the number of the last, which is the greatest if they are in ascending order
abbrev pub greatest : List Record → Option ℕ
greatest records = option_map (λ r. r.id) (slice_get records (length records - 1))

abbrev pub choice_from : Option ℕ → Option ℕ → Choice
choice_from (Some id) base = choice.Checkpoint id
choice_from None (Some id) = choice.Savepoint id
choice_from None None = choice.Fresh

-- What the job would restart from: the greatest checkpoint, otherwise the base, otherwise nothing. Source: the Flink
-- documentation, "Checkpoints": after a failure the job restarts from the latest completed checkpoint; the base is this
-- project's own rule.
abbrev pub choice_of : Stored → Choice
choice_of s = choice_from (greatest s.checkpoints) s.base

-- the record of this number, a checkpoint before a savepoint
abbrev pub record_of : Stored → ℕ → Option Record
record_of s id = elim (find (has_id id) s.checkpoints) [ Some r ↦ Some r | None ↦ find (has_id id) s.savepoints ]
