-- What a call writes into the caller's buffer.
use Rattle.std.specs.Prelude.{◌≡◌, ◌≢◌, ℕ, nat_lt, if◌then◌else◌, List, [], length, take, drop}
use Rattle.ckpt_ids.specs.declared.call.Call.TheVariants as call
use Rattle.ckpt_ids.specs.{declared.reply.Reply.Reply, declared.reply.Reply.TheVariants.Taken, declared.reply.Reply.TheVariants.Shown, declared.reply.Answer.TheVariants.Done}
use Rattle.ckpt_ids.specs.declared.reply.Answer.TheVariants.{Refused}
use Rattle.ckpt_ids.specs.declared.reply.Answer as ids
use Rattle.ckpt_model.specs.{State.State, Steps.step}
use Rattle.ckpt_answers.specs.MetadataTexts.{metadata_bytes}
use Rattle.relkvanu.specs.declared.answer.Answer.{Answer}
use Rattle.relkvanu.specs.Told.{reply_told, refusal_told, done, no_memory, too_short}

abbrev pub files_of_reply : Reply → List ℕ
files_of_reply (Taken files) = files
files_of_reply reply = []

-- the files that the answer brings
abbrev pub files_in : ids.Answer → List ℕ
files_in (Done reply) = files_of_reply reply
files_in (Refused why) = []

abbrev pub json_of_reply : Reply → List ℕ
json_of_reply (Shown metadata) = metadata_bytes metadata
json_of_reply reply = []

-- the metadata that the answer brings, as JSON
abbrev pub json_in : ids.Answer → List ℕ
json_in (Done reply) = json_of_reply reply
json_in (Refused why) = []

-- the answer for JSON if the buffer has this many places: how many bytes the JSON has
abbrev pub json_told : List ℕ → ℕ → Answer
json_told json places = if nat_lt places (length json) then too_short (length json) else done 21 (length json) 0

abbrev pub show_reply_told : Reply → ℕ → Answer
show_reply_told (Shown metadata) places = json_told (metadata_bytes metadata) places
show_reply_told reply places = reply_told reply

-- the answer for a show if the buffer has this many places
abbrev pub show_told : ids.Answer → ℕ → Answer
show_told (Done reply) places = show_reply_told reply places
show_told (Refused why) places = refusal_told why

-- the list is at the start of the buffer, whose other places have not changed
abbrev pub StandsInFront : List ℕ → List ℕ → List ℕ → Type 0
StandsInFront list old new = (take (length list) new ≡ list) × (drop (length list) new ≡ drop (length list) old)

-- the files that a take returns are at the start of a buffer that has this many places
abbrev pub BringsFiles : State → List ℕ → List ℕ → Answer → Type 0
BringsFiles m old new answer = answer.code ≢ no_memory → StandsInFront (files_in (step m (call.Take (length old))).1) old new

-- a show returns the JSON's length, or how many places the buffer needs, or why it is refused; unless memory ran out
abbrev pub IsShowTold : State → ℕ → ℕ → Answer → Type 0
IsShowTold m id places answer = answer.code ≢ no_memory → answer ≡ show_told (step m (call.Show id)).1 places

-- the metadata that a show returns is at the start of the buffer
abbrev pub BringsJson : State → ℕ → List ℕ → List ℕ → Answer → Type 0
BringsJson m id old new answer = answer.code ≡ 0 → StandsInFront (json_in (step m (call.Show id)).1) old new
