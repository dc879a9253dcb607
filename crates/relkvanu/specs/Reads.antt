-- The answers of the reads that take no memory. `relkvanu.h` names the numbers.
use Rattle.std.specs.Prelude.{ℕ, ◌==◌, if◌then◌else◌, Option, Some, None, length}
use Rattle.std.specs.Int.{from_bool}
use Rattle.ckpt_ids.specs.{declared.numbers.Kind.Kind, declared.reply.Choice.Choice, Records.uses}
use Rattle.ckpt_ids.specs.declared.numbers.Kind.TheVariants as kind
use Rattle.ckpt_ids.specs.declared.reply.Choice.TheVariants as choice
use Rattle.ckpt_model.specs.{declared.mode.Mode.Mode, declared.reads.Live.Live, Reads.present_in, State.State}
use Rattle.ckpt_model.specs.declared.mode.Mode.TheVariants.{Running, Failed, Cancelled}
use Rattle.relkvanu.specs.{declared.answer.Answer.Answer, declared.reads.FileCounts.FileCounts, Told.done}

abbrev pub mode_told : Mode → Answer
mode_told Running = done 23 0 0
mode_told Failed = done 24 0 0
mode_told Cancelled = done 25 0 0

-- the greatest moment seen
abbrev pub moment_told : ℕ → Answer
moment_told moment = done 55 moment 0

abbrev pub due_told : ℕ → Answer
due_told moment = done 26 moment 0

abbrev pub expiry_told : Option ℕ → Answer
expiry_told (Some moment) = done 27 moment 0
expiry_told None = done 28 0 0

-- the moment, if there is one
abbrev pub expiry_in : Answer → Option ℕ
expiry_in answer = if answer.what == 27 then Some answer.a else None

abbrev pub choice_told : Choice → Answer
choice_told (choice.Checkpoint id) = done 29 id 0
choice_told (choice.Savepoint id) = done 30 id 0
choice_told choice.Fresh = done 31 0 0

abbrev pub kind_number : Kind → ℕ
kind_number kind.Checkpoint = 32
kind_number kind.Savepoint = 33

abbrev pub live_told : Option Live → Answer
live_told (Some live) = done (kind_number live.kind) live.id (from_bool live.done)
live_told None = done 34 0 0

abbrev pub missing_told : Option ℕ → Answer
missing_told (Some subtasks) = done 35 subtasks 0
missing_told None = done 36 0 0

abbrev pub counts_of : State → FileCounts
counts_of m = record { code = 0; in_use = present_in (uses m.records); waiting = length m.waiting; taken = length m.taken }

abbrev pub no_counts : FileCounts
no_counts = record { code = 3; in_use = 0; waiting = 0; taken = 0 }
