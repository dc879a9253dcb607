-- The answers of the reads for a recovery.
use Rattle.std.specs.Prelude.{◌≡◌, ◌≢◌, ℕ, nat_lt, if◌then◌else◌, List, [], length, Option, Some, None}
use Rattle.std.specs.Option.{option_and_then}
use Rattle.ckpt_ids.specs.declared.subtask.SubtaskId.{SubtaskId}
use Rattle.ckpt_pending.specs.Acknowledging.{files_from}
use Rattle.ckpt_model.specs.{declared.reads.Standing.Standing, State.State, State.record_of}
use Rattle.ckpt_model.specs.declared.reads.Standing.TheVariants as stands
use Rattle.relkvanu.specs.{declared.answer.Answer.Answer, Buffers.StandsInFront}
use Rattle.relkvanu.specs.Told.{done, no_memory, too_short}

abbrev pub standing_told : Standing → Answer
standing_told stands.Pending = done 46 0 0
standing_told stands.Done = done 47 0 0
standing_told stands.Ended = done 48 0 0
standing_told stands.NotYet = done 49 0 0
standing_told stands.Never = done 50 0 0

-- the answer for a list of files if the buffer has this many places: how many files there are
abbrev pub list_told : List ℕ → ℕ → Answer
list_told list places = if nat_lt places (length list) then too_short (length list) else done 51 (length list) 0

-- the files that this subtask acknowledged in a live record
abbrev pub acked_in : State → ℕ → SubtaskId → Option (List ℕ)
acked_in m id subtask = option_and_then (λ r. files_from r subtask) (record_of m id)

-- the same, with the subtask as two numbers
abbrev pub acked_by : State → ℕ → ℕ → ℕ → Option (List ℕ)
acked_by m id vertex index = acked_in m id (record { vertex = vertex; index = index })

abbrev pub acked_told : Option (List ℕ) → ℕ → Answer
acked_told (Some list) places = list_told list places
acked_told None places = done 52 0 0

-- no files if there is no list
abbrev pub files_acked : Option (List ℕ) → List ℕ
files_acked (Some list) = list
files_acked None = []

abbrev pub waiting_told : Option ℕ → Answer
waiting_told (Some file) = done 53 file 0
waiting_told None = done 54 0 0

-- a read returns the length of its list, or how many places the buffer needs; unless memory ran out
abbrev pub IsListTold : List ℕ → ℕ → Answer → Type 0
IsListTold list places answer = answer.code ≢ no_memory → answer ≡ list_told list places

-- the list is at the start of the buffer
abbrev pub BringsList : List ℕ → List ℕ → List ℕ → Answer → Type 0
BringsList list old new answer = answer.code ≡ 0 → StandsInFront list old new
