-- A call that is made of its fields and its lists, and whose line is written.
use Rattle.std.specs.Prelude.{◌≡◌, ℕ, nat_lt, if◌then◌else◌, List, length, Some, Result, Ok, Err}
use Rattle.ckpt_model.specs.State.{State}
use Rattle.ckpt_lines.specs.declared.limits.TheConstants.{LONGEST_LINE}
use Rattle.ckpt_terms.specs.declared.machine.Machine.{Machine}
use Rattle.relkvanu.specs.{declared.answer.Answer.Answer, declared.asked.Asked.Asked, declared.handle.Handle.Handle, declared.making.Made.Made}
use Rattle.relkvanu.specs.{declared.writing.CallFields.CallFields, Asking.bad_line, Buffers.StandsInFront, Fenced.IsHandled, Fenced.IsTaken, Lines.said_files, Lines.said_step}
use Rattle.relkvanu.specs.{Past.GrowsBy, Past.said_line, Reads.counts_of, Told.bad_argument, Told.too_short_for}
use Rattle.relkvanu.specs.Writing.{asked_text, call_line_text, given}

-- what is asked for, if its text is no longer than a line may be and than a buffer with this many places
abbrev pub asked_if_fits : Asked → List ℕ → ℕ → Result Asked Answer
asked_if_fits asked text places =
    if nat_lt LONGEST_LINE (length text) then Err (bad_line 1)
    else if nat_lt places (length text) then Err (too_short_for 0 (length text)) else Ok asked

-- what fields and lists ask for, or the answer if nothing is made: an argument is bad, or the line does not fit
unfoldable pub to_make : Result Asked ℕ → ℕ → Result Asked Answer
to_make (Ok asked) places = asked_if_fits asked (asked_text asked) places
to_make (Err what) places = Err (bad_argument what)

-- what the fields and the two lists ask for, or the answer if that is bad or its line does not fit the buffer
abbrev pub making : CallFields → List ℕ → List ℕ → List ℕ → Result Asked Answer
making call first second line = to_make (given call first second) (length line)

-- the files that the call returns are at the start of the buffer, if it was made
abbrev pub BringsMade : State → Result Asked Answer → List ℕ → List ℕ → Answer → Type 0
BringsMade m asked old new answer = answer.code ≡ 0 → StandsInFront (said_files m asked) old new

-- the same through an open handle
abbrev pub Brings : Handle → Result Asked Answer → List ℕ → List ℕ → Answer → Type 0
Brings handle asked old new answer = (m : State) → handle.value ≡ Some m → BringsMade m asked old new answer

-- a coordinator makes what is asked for, with this buffer for files
abbrev pub StepsAsked : List ℕ → Result Asked Answer → Machine → Machine → Answer → Type 0
StepsAsked files asked old new answer = IsTaken (λ k. said_step k (length files) asked) old new answer

-- the same through a handle
abbrev pub Makes : List ℕ → Result Asked Answer → Handle → Handle → Answer → Type 0
Makes files asked old new answer = IsHandled (λ k. said_step k (length files) asked) old new answer

-- and the past of the handle grows by it
abbrev pub Grows : List ℕ → Result Asked Answer → Handle → Handle → Answer → Type 0
Grows files asked old new answer = GrowsBy (said_line (length files) asked) old.past new.past answer

-- the length of the line, how many files waited for deletion before the call, and the numbers of files after it
abbrev pub made_of : ℕ → State → State → Made
made_of written old new =
    record { written = written; waited = length old.waiting; in_use = (counts_of new).in_use; waiting = length new.waiting; taken = length new.taken }

-- the numbers told of a call, if it was made
abbrev pub Reports : ℕ → State → State → Made → Answer → Type 0
Reports written old new made answer = answer.code ≡ 0 → made ≡ made_of written old new

-- the same through a handle
abbrev pub HandleReports : ℕ → Handle → Handle → Made → Answer → Type 0
HandleReports written old new made answer = (m n : State) → old.value ≡ Some m → new.value ≡ Some n → Reports written m n made answer

-- how long the line of these fields and lists is
abbrev pub line_length : Result Asked ℕ → ℕ
line_length given = length (call_line_text given)
