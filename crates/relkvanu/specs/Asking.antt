-- What a line of a log asks of a handle, or the answer if it asks for nothing.
use Rattle.std.specs.Prelude.{ℕ, List, Result, Ok, Err}
use Rattle.ckpt_lines.specs.{declared.fault.LineFault.LineFault, declared.line.Line.Line, declared.line.Line.TheVariants.Skip, declared.line.Line.TheVariants.BadShape}
use Rattle.ckpt_lines.specs.declared.fault.LineFault.TheVariants as fault
use Rattle.ckpt_term_lines.specs.{declared.line.TermLine.TermLine, TermReading.term_reading}
use Rattle.ckpt_term_lines.specs.declared.line.TermLine.TheVariants as line
use Rattle.relkvanu.specs.{declared.answer.Answer.Answer, declared.asked.Asked.Asked, declared.asked.Asked.TheVariants.Fence, declared.asked.Asked.TheVariants.Call}
use Rattle.relkvanu.specs.Told.{answer, bad_argument, bad_config, bad_shape, done, out_of_memory}

-- a line that makes no call, and why
abbrev pub bad_line : ℕ → Answer
bad_line what = answer 6 what 0 0

-- the line was read, and makes no call
abbrev pub no_call : Answer
no_call = bad_line 6

abbrev pub line_fault_told : LineFault → Answer
line_fault_told fault.TooLong = bad_line 1
line_fault_told fault.Word = bad_line 2
line_fault_told fault.Missing = bad_line 3
line_fault_told fault.Number = bad_line 4
line_fault_told fault.Extra = bad_line 5
line_fault_told fault.Memory = out_of_memory

-- a line of a script that makes no call
abbrev pub other_told : Line → Answer
other_told Skip = done 37 0 0
other_told BadShape = bad_argument bad_shape
other_told other = no_call

abbrev pub asked_by : TermLine → Result Asked Answer
asked_by (line.Fence first) = Ok (Fence first)
asked_by (line.Call call) = Ok (Call call)
asked_by (line.Other other) = Err (other_told other)
asked_by line.BadConfig = Err (bad_argument bad_config)
asked_by line.NoCall = Err no_call

abbrev pub line_said : Result TermLine LineFault → Result Asked Answer
line_said (Ok line) = asked_by line
line_said (Err why) = Err (line_fault_told why)

-- what the line asks for, or the answer if it asks for nothing
unfoldable pub said : List ℕ → Result Asked Answer
said bytes = line_said (term_reading bytes)
