-- What a line of a log does through a handle, and its answer.
use Rattle.std.specs.Prelude.{◌≡◌, ◌≢◌, ℕ, Bool, true, false, ◌||◌, ◌==◌, nat_lt, if◌then◌else◌, List, [], ◌∷◌, length, Some, Result, Ok, Err, is_none}
use Rattle.std.specs.Int.{from_bool}
use Rattle.ckpt_ids.specs.declared.call.Call.{Call}
use Rattle.ckpt_ids.specs.declared.call.Call.TheVariants as call
use Rattle.ckpt_model.specs.{Memory.may_want_memory, State.State, Steps.step, Steps.Stepped}
use Rattle.ckpt_lines.specs.{declared.fault.LineFault.LineFault, declared.line.Line.Line}
use Rattle.ckpt_lines.specs.declared.line.Line.TheVariants as line
use Rattle.ckpt_term_lines.specs.{declared.line.TermLine.TermLine, declared.line.TermLine.TheVariants.Other, TermReading.term_may_want_memory}
use Rattle.ckpt_terms.specs.{declared.call.FencedCall.FencedCall, declared.call.FencedCall.TheVariants.Make, declared.machine.Machine.Machine}
use Rattle.ckpt_terms.specs.declared.machine.Machine.TheVariants as machine
use Rattle.ckpt_terms.specs.Machines.{core_in, is_free, machine_of, names_in, passes}
use Rattle.relkvanu.specs.{declared.answer.Answer.Answer, declared.asked.Asked.Asked, declared.handle.Handle.Handle, Asking.line_fault_told, Asking.said}
use Rattle.relkvanu.specs.declared.asked.Asked.TheVariants as ask
use Rattle.relkvanu.specs.Buffers.{files_in, show_told, StandsInFront}
use Rattle.relkvanu.specs.Fenced.{call_step, fence_step, machine_in, no_names, term_step, term_wants}
use Rattle.relkvanu.specs.Told.{answer_told, done, no_memory, too_short}

-- a take fetches nothing if the buffer has too few places
abbrev pub fetched : State → ℕ → Stepped → State × Answer
fetched m places s = if nat_lt places (length (files_in s.1)) then (m, too_short (length (files_in s.1))) else (s.0, answer_told s.1)

-- the state and the answer of a line's call, if the buffer has this many places for files; there is no buffer for JSON
unfoldable pub call_made : State → ℕ → Call → State × Answer
call_made m places (call.Take most) = fetched m places (step m (call.Take most))
call_made m places (call.Show id) = (m, show_told (step m (call.Show id)).1 0)
call_made m places call = ((step m call).0, answer_told (step m call).1)

-- the state and the answer of a coordinator, whose names stay
abbrev pub core_step : Machine → State × Answer → Machine × Answer
core_step k made = (machine_of made.0 (names_in k), made.1)

-- a line's call without a term
abbrev pub plain_step : Machine → ℕ → Call → Machine × Answer
plain_step k places call = if is_free call then core_step k (call_made (core_in k) places call) else call_step k call

-- a line's call with a term: where names are given out, a call that has no use for the term is made as without one
abbrev pub named_step : Machine → ℕ → ℕ → Call → Machine × Answer
named_step (machine.Plain m) places term call = (machine.Plain m, no_names)
named_step (machine.Fenced m) places term call =
    if is_free call then plain_step (machine.Fenced m) places call else term_step (machine.Fenced m) (Make term call)

-- term 0 is none
abbrev pub line_call_step : Machine → ℕ → FencedCall → Machine × Answer
line_call_step k places (Make term call) = if term == 0 then plain_step k places call else named_step k places term call
line_call_step k places call = term_step k call

abbrev pub asked_step : Machine → ℕ → Asked → Machine × Answer
asked_step k places (ask.Fence first) = fence_step k first
asked_step k places (ask.Call call) = line_call_step k places call

abbrev pub said_step : Machine → ℕ → Result Asked Answer → Machine × Answer
said_step k places (Ok asked) = asked_step k places asked
said_step k places (Err answer) = (k, answer)

-- what a line leaves, and its answer, if the buffer has this many places for files
abbrev pub line_step : Machine → ℕ → List ℕ → Machine × Answer
line_step k places bytes = said_step k places (said bytes)

-- a line's call without a term that the coordinator answers makes its step, as if there were no names
abbrev pub IsLineAnswered : Handle → Handle → List ℕ → ℕ → Answer → Type 0
IsLineAnswered old new bytes places answer =
    (m : State) (call : Call) → old.value ≡ Some m → said bytes ≡ Ok (ask.Call (Make 0 call)) → passes old.names call ≡ true
    → answer.code ≢ no_memory → (new.value ≡ Some (call_made m places call).0) × (answer ≡ (call_made m places call).1)

-- the same of a coordinator
abbrev pub IsCallTold : Machine → Machine → Call → ℕ → Answer → Type 0
IsCallTold old new call places answer =
    passes (names_in old) call ≡ true → answer.code ≢ no_memory
    → (core_in new ≡ (call_made (core_in old) places call).0) × (answer ≡ (call_made (core_in old) places call).1)

abbrev pub IsLineTold : Machine → Machine → Result Asked Answer → ℕ → Answer → Type 0
IsLineTold old new asked places answer = (call : Call) → asked ≡ Ok (ask.Call (Make 0 call)) → IsCallTold old new call places answer

-- a line that begins no names and makes no call that needs a term or ends one
abbrev pub is_free_line : Result Asked Answer → Bool
is_free_line (Ok (ask.Call (Make term call))) = is_free call
is_free_line (Ok asked) = false
is_free_line (Err answer) = true

abbrev pub call_files : State → Call → List ℕ
call_files m (call.Take most) = files_in (step m (call.Take most)).1
call_files m call = []

-- the files that the line's call returns
abbrev pub said_files : State → Result Asked Answer → List ℕ
said_files m (Ok (ask.Call (Make term call))) = call_files m call
said_files m other = []

-- the files that the line's call returns are at the start of the buffer
abbrev pub BringsLineFiles : State → List ℕ → List ℕ → List ℕ → Answer → Type 0
BringsLineFiles m bytes old new answer = answer.code ≡ 0 → StandsInFront (said_files m (said bytes)) old new

-- a call with a term runs out of memory only where names are given out
abbrev pub named_wants : Machine → ℕ → Call → Bool
named_wants (machine.Plain m) term call = false
named_wants (machine.Fenced m) term call = if is_free call then may_want_memory m.core call else term_wants (machine.Fenced m) (Make term call)

abbrev pub call_wants : Machine → FencedCall → Bool
call_wants k (Make term call) = if term == 0 then may_want_memory (core_in k) call else named_wants k term call
call_wants k call = term_wants k call

abbrev pub said_wants : Machine → Result Asked Answer → Bool
said_wants k (Ok (ask.Fence first)) = is_none (names_in k)
said_wants k (Ok (ask.Call call)) = call_wants k call
said_wants k (Err answer) = false

-- a line runs out of memory only if reading it or making its call may
abbrev pub LineWantsMemory : Handle → List ℕ → Answer → Type 0
LineWantsMemory old bytes answer =
    (m : State) → old.value ≡ Some m → answer.code ≡ no_memory → (term_may_want_memory bytes || said_wants (machine_in old m) (said bytes)) ≡ true

-- the kind of the line
abbrev pub line_number : Line → ℕ
line_number line.Skip = 38
line_number (line.Config interval pause at_once timeout tolerable retained keep) = 39
line_number (line.Job parallelisms) = 40
line_number (line.Start now) = 41
line_number (line.All now id threads first) = 43
line_number line = 42

-- the numbers of a line that makes no call, in its order
abbrev pub line_numbers : Line → List ℕ
line_numbers (line.Config interval pause at_once timeout tolerable retained keep) =
    interval ∷ pause ∷ at_once ∷ timeout ∷ tolerable ∷ retained ∷ from_bool keep ∷ []
line_numbers (line.Job parallelisms) = parallelisms
line_numbers (line.Start now) = now ∷ []
line_numbers (line.All now id threads first) = now ∷ id ∷ threads ∷ first ∷ []
line_numbers line = []

-- the answer for numbers if the buffer has this many places
abbrev pub numbers_told : ℕ → List ℕ → ℕ → Answer
numbers_told what numbers places = if nat_lt places (length numbers) then too_short (length numbers) else done what (length numbers) 0

-- other lines make a call, or are refused where they should
abbrev pub says_told : Result TermLine LineFault → ℕ → Answer
says_told (Ok (Other line)) places = numbers_told (line_number line) (line_numbers line) places
says_told (Ok line) places = numbers_told 42 [] places
says_told (Err why) places = line_fault_told why

abbrev pub says_numbers : Result TermLine LineFault → List ℕ
says_numbers (Ok (Other line)) = line_numbers line
says_numbers (Ok line) = []
says_numbers (Err why) = []
