-- What a recorder keeps.
use Rattle.std.specs.Prelude.{ℕ, Bool, true, false, nat_lt, nat_le, List, map, replicate, slice_set, if◌then◌else◌}
use Rattle.ckpt_align.specs.declared.input.Input.{Input}
use Rattle.ckpt_align.specs.declared.input.Input.TheVariants.{Open, Held}
use Rattle.ckpt_align.specs.Alignment.{released}
use Rattle.ckpt_unaligned.specs.declared.answer.Phase.{Phase}
use Rattle.ckpt_unaligned.specs.declared.answer.Phase.TheVariants as phase

pub record Recorder : Type 0 where
  -- how each input is, by its number: a held one has delivered the barrier of the latest record
  pub inputs : List Input
  -- the greatest record that was begun; 0 before the first
  pub latest : ℕ
  -- what is done for it
  pub phase : Phase

abbrev pub is_idle : Phase → Bool
is_idle phase.Idle = true
is_idle other = false

abbrev pub is_recording : Phase → Bool
is_recording phase.Recording = true
is_recording other = false

-- The record is whole or was given up, or a greater one was begun.
abbrev pub is_late : Recorder → ℕ → Bool
is_late r n = if is_idle r.phase then nat_le n r.latest else nat_lt n r.latest

-- all inputs are open, and nothing was begun
abbrev pub opened : ℕ → Recorder
opened inputs = record { inputs = replicate inputs Open; latest = 0; phase = phase.Idle }

abbrev pub with_input : Recorder → ℕ → Input → Recorder
with_input r i input = record r { inputs = slice_set r.inputs i input }

abbrev pub begun : Phase → Phase
begun phase.Idle = phase.Aligning
begun other = other

-- this input has delivered the barrier of this record
abbrev pub delivered : Recorder → ℕ → ℕ → Recorder
delivered r i n = record { inputs = slice_set r.inputs i Held; latest = n; phase = begun r.phase }

-- the latest record is whole, or given up: its inputs are released
abbrev pub ended : Recorder → Recorder
ended r = record { inputs = map released r.inputs; latest = r.latest; phase = phase.Idle }

-- this record has overtaken: its snapshot is taken before each barrier has come
abbrev pub overtaken : Recorder → ℕ → Recorder
overtaken r n = record { inputs = r.inputs; latest = n; phase = phase.Recording }
