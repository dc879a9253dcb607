-- The lines that are written for a C program: the line of a call, and the lines of an opening.
use Rattle.std.specs.Prelude.{◌≡◌, ◌≢◌, ℕ, ◌==◌, ◌&&◌, nat_le, nat_lt, if◌then◌else◌, List, [], ◌∷◌, ◌++◌, get_or, length, Option, Some, None, Result, Ok, Err}
use Rattle.ckpt_ids.specs.{Ascending.ascending, declared.call.Call.Call, declared.subtask.SubtaskId.SubtaskId}
use Rattle.ckpt_ids.specs.Configuration.{Configuration, configured, is_within_limits}
use Rattle.ckpt_ids.specs.declared.call.Call.TheVariants as call
use Rattle.ckpt_model.specs.State.{Opening}
use Rattle.ckpt_lines.specs.{declared.limits.TheConstants.LONGEST_LINE, Reading.is_new_shape, Reading.reading}
use Rattle.ckpt_lines.specs.declared.line.Line.TheVariants as script
use Rattle.ckpt_lines.specs.CallTexts.{config_text, job_text, line_of_config, start_text}
use Rattle.ckpt_terms.specs.declared.call.FencedCall.TheVariants.{Reserve, Forfeit, Make, Advance}
use Rattle.ckpt_term_lines.specs.{declared.line.TermLine.TermLine, TermReading.term_reading, TermTexts.fence_text, TermTexts.term_text}
use Rattle.ckpt_term_lines.specs.declared.line.TermLine.TheVariants as line
use Rattle.relkvanu.specs.{declared.answer.Answer.Answer, declared.asked.Asked.Asked, declared.writing.CallFields.CallFields, Asking.bad_line, Asking.said, Calls.ack_of}
use Rattle.relkvanu.specs.{Calls.restore_of, Opening.bad_opening}
use Rattle.relkvanu.specs.declared.asked.Asked.TheVariants as ask
use Rattle.relkvanu.specs.Told.{bad_argument, bad_config, bad_shape, done, no_memory, too_short}

-- a kind that no call has
abbrev pub bad_kind : ℕ
bad_kind = 6

abbrev pub subtask_in : CallFields → SubtaskId
subtask_in c = record { vertex = c.vertex; index = c.index }

abbrev pub restore_in : CallFields → List ℕ → Result Call ℕ
restore_in c shape = if is_new_shape shape then Ok (restore_of c.now c.number shape) else Err bad_shape

-- the settings of seven numbers in the order of `relkvanu_settings`, of which the last is 0 or 1
abbrev pub configuration_in : List ℕ → Option Configuration
configuration_in (interval ∷ pause ∷ at_once ∷ timeout ∷ tolerable ∷ retained ∷ keep ∷ []) =
    let config : Configuration = configured interval pause at_once timeout tolerable retained (keep == 1) in
    if nat_le keep 1 && is_within_limits config then Some config else None
configuration_in list = None

abbrev pub configuring : ℕ → Option Configuration → Result Call ℕ
configuring now (Some config) = Ok (call.Configure now config)
configuring now None = Err bad_config

-- the call of each kind, from 1 on, but for the three that need a term or names
abbrev pub kinds : CallFields → List ℕ → List ℕ → List (Result Call ℕ)
kinds c first second =
    Err bad_kind ∷ Ok (call.Tick c.now) ∷ Ok (call.Savepoint c.now) ∷ Ok (ack_of c.now c.number (subtask_in c) first second)
    ∷ Ok (call.Decline c.now c.number (subtask_in c)) ∷ Ok (call.Dispose c.number) ∷ restore_in c first ∷ Ok (call.Cancel c.now)
    ∷ Ok (call.Take c.number) ∷ Ok (call.Deleted c.number) ∷ Ok (call.Undeleted c.number) ∷ Ok (call.Show c.number) ∷ Ok (call.Count c.number)
    ∷ Err bad_kind ∷ Err bad_kind ∷ Err bad_kind ∷ Ok (call.Trigger c.now) ∷ configuring c.now (configuration_in first) ∷ []

-- the call of the fields and the two lists, or which argument is bad
unfoldable pub call_given : CallFields → List ℕ → List ℕ → Result Call ℕ
call_given c first second = get_or (kinds c first second) c.kind (Err bad_kind)

-- by a caller with this term
abbrev pub with_term : ℕ → Result Call ℕ → Result Asked ℕ
with_term term (Ok call) = Ok (ask.Call (Make term call))
with_term term (Err what) = Err what

-- what the fields and the two lists ask for, or which argument is bad
unfoldable pub given : CallFields → List ℕ → List ℕ → Result Asked ℕ
given c first second =
    if c.kind == 13 then Ok (ask.Fence c.number)
    else if c.kind == 14 then Ok (ask.Call (Reserve c.term c.number))
    else if c.kind == 15 then Ok (ask.Call (Forfeit c.term (ascending first)))
    else if c.kind == 18 then Ok (ask.Call (Advance c.now c.term c.number))
    else with_term c.term (call_given c first second)

-- the bad argument because of which nothing is asked for, unless memory ran out
abbrev pub IsWhyNotGiven : Result Asked ℕ → Answer → Type 0
IsWhyNotGiven given answer = answer.code ≢ no_memory → (given ≡ Err answer.what) × (answer ≡ bad_argument answer.what)

abbrev pub asked_text : Asked → List ℕ
asked_text (ask.Fence first) = fence_text first
asked_text (ask.Call call) = term_text call

-- the line that asks for it
abbrev pub line_of_asked : Asked → TermLine
line_of_asked (ask.Fence first) = line.Fence first
line_of_asked (ask.Call call) = line.Call call

-- the answer for a text if the buffer has this many places: how many bytes it has, unless it is too long for a line
abbrev pub text_told : List ℕ → ℕ → Answer
text_told text places =
    if nat_lt LONGEST_LINE (length text) then bad_line 1
    else if nat_lt places (length text) then too_short (length text) else done 44 (length text) 0

abbrev pub call_line_told : Result Asked ℕ → ℕ → Answer
call_line_told (Ok asked) places = text_told (asked_text asked) places
call_line_told (Err what) places = bad_argument what

abbrev pub call_line_text : Result Asked ℕ → List ℕ
call_line_text (Ok asked) = asked_text asked
call_line_text (Err what) = []

-- the line that was written asks for the same
abbrev pub SaysBack : Result Asked ℕ → List ℕ → Answer → Type 0
SaysBack given line answer = (asked : Asked) → given ≡ Ok asked → answer.code ≡ 0 → said line ≡ Ok asked

-- it is read as the line that asks for it
abbrev pub ReadsBack : Result Asked ℕ → List ℕ → Answer → Type 0
ReadsBack given line answer = (asked : Asked) → given ≡ Ok asked → answer.code ≡ 0 → term_reading line ≡ Ok (line_of_asked asked)

abbrev pub newline : List ℕ
newline = 10 ∷ []

-- the lines `config`, `job` and `start`
unfoldable pub opening_text : Opening → List ℕ
opening_text o = config_text o.config ++ newline ++ job_text o.shape ++ newline ++ start_text o.start ++ newline

-- the answer for a text, unless an argument is bad
abbrev pub text_told_unless : Option ℕ → List ℕ → ℕ → Answer
text_told_unless None text places = text_told text places
text_told_unless (Some what) text places = bad_argument what

abbrev pub opening_told : Opening → ℕ → Answer
opening_told o places = text_told_unless (bad_opening o) (opening_text o) places

-- each of the three lines is read as what was written
abbrev pub OpeningReadsBack : Opening → Answer → Type 0
OpeningReadsBack o answer =
    answer.code ≡ 0 → (reading (config_text o.config) ≡ Ok (line_of_config o.config))
    × (reading (job_text o.shape) ≡ Ok (script.Job o.shape))
    × (reading (start_text o.start) ≡ Ok (script.Start o.start))
