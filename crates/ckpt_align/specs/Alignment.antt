-- What an aligner keeps.
use Rattle.std.specs.Prelude.{ℕ, Bool, true, false, ◌&&◌, nat_lt, nat_le, List, map, replicate, slice_set, if◌then◌else◌}
use Rattle.std.specs.List.{list_any}
use Rattle.ckpt_align.specs.declared.aligner.TheConstants.{MOST_INPUTS}
use Rattle.ckpt_align.specs.declared.input.Input.{Input}
use Rattle.ckpt_align.specs.declared.input.Input.TheVariants.{Open, Held}

pub record Alignment : Type 0 where
  -- how each input is, by its number
  pub inputs : List Input
  -- the greatest record that an alignment began for; 0 before the first
  pub latest : ℕ

abbrev pub is_held : Input → Bool
is_held Held = true
is_held input = false

abbrev pub is_open : Input → Bool
is_open Open = true
is_open input = false

abbrev pub released : Input → Input
released Held = Open
released input = input

-- a record is being aligned while an input is held for it
abbrev pub is_aligning : Alignment → Bool
is_aligning a = list_any is_held a.inputs

-- The record was cut or given up, or a greater one is being aligned. Numbers rise: of two records the one that was
-- triggered later has the greater one.
abbrev pub is_late : Alignment → ℕ → Bool
is_late a n = if is_aligning a then nat_lt n a.latest else nat_le n a.latest

-- a task has 1 to MOST_INPUTS inputs
abbrev pub is_a_task : ℕ → Bool
is_a_task inputs = nat_lt 0 inputs && nat_le inputs MOST_INPUTS

-- all inputs are open, and nothing was aligned
abbrev pub opened : ℕ → Alignment
opened inputs = record { inputs = replicate inputs Open; latest = 0 }

abbrev pub with_input : Alignment → ℕ → Input → Alignment
with_input a i input = record a { inputs = slice_set a.inputs i input }

-- this input has delivered the barrier of this record
abbrev pub held_for : Alignment → ℕ → ℕ → Alignment
held_for a i n = record (with_input a i Held) { latest = n }

abbrev pub all_released : Alignment → Alignment
all_released a = record a { inputs = map released a.inputs }
