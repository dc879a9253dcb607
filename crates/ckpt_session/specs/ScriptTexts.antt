-- What a script prints: the outcomes of its lines, and their faults.
use Rattle.std.specs.Prelude.{ℕ, Bool, true, false, List, [], ◌++◌, codes, decimal}
use Rattle.ckpt_lines.specs.declared.fault.LineFault.{LineFault}
use Rattle.ckpt_lines.specs.declared.fault.LineFault.TheVariants as fault
use Rattle.ckpt_answers.specs.Texts.{answer_bytes, spaced}
use Rattle.ckpt_session.specs.declared.outcome.AllEnd.{AllEnd}
use Rattle.ckpt_session.specs.declared.outcome.AllEnd.TheVariants.{Completed, Pending}
use Rattle.ckpt_session.specs.declared.outcome.Outcome.{Outcome}
use Rattle.ckpt_session.specs.declared.outcome.Outcome.TheVariants.{Silent, Refused, Answered, Acknowledged}
use Rattle.ckpt_session.specs.declared.outcome.ScriptRefusal.{ScriptRefusal}
use Rattle.ckpt_session.specs.declared.outcome.ScriptRefusal.TheVariants as refusal

unfoldable pub refusal_name : ScriptRefusal → List ℕ
refusal_name refusal.Started = codes "Started"
refusal_name refusal.NotStarted = codes "NotStarted"
refusal_name refusal.NotReady = codes "NotReady"
refusal_name refusal.BadConfig = codes "BadConfig"
refusal_name refusal.BadShape = codes "BadShape"
refusal_name refusal.MomentTooLarge = codes "MomentTooLarge"
refusal_name refusal.BadThreads = codes "BadThreads"
refusal_name refusal.NotPending = codes "NotPending"
refusal_name refusal.FilesUsedUp = codes "FilesUsedUp"

-- the text of a refusal, with a newline at its end
unfoldable pub refusal_bytes : ScriptRefusal → List ℕ
refusal_bytes why = codes "refused " ++ refusal_name why ++ codes "\n"

-- the state of the record of an `all` line, with a newline at its end
unfoldable pub all_end_bytes : AllEnd → List ℕ
all_end_bytes (Completed dropped released) = codes " completed" ++ spaced dropped ++ spaced released ++ codes "\n"
all_end_bytes (Pending missing) = codes " pending" ++ spaced missing ++ codes "\n"

-- whether anything is printed of an outcome
abbrev pub is_said : Outcome → Bool
is_said Silent = false
is_said outcome = true

-- what is printed of an outcome, with a newline at its end
unfoldable pub outcome_bytes : Outcome → List ℕ
outcome_bytes Silent = []
outcome_bytes (Refused why) = refusal_bytes why
outcome_bytes (Answered answer) = answer_bytes answer
outcome_bytes (Acknowledged accepted refused end) = codes "all" ++ spaced accepted ++ spaced refused ++ all_end_bytes end

unfoldable pub fault_name : LineFault → List ℕ
fault_name fault.Word = codes "Word"
fault_name fault.Number = codes "Number"
fault_name fault.Missing = codes "Missing"
fault_name fault.Extra = codes "Extra"
fault_name fault.TooLong = codes "TooLong"
fault_name fault.Memory = codes "Memory"

-- the text of the fault of the line with this number, with a newline at its end
unfoldable pub fault_bytes : ℕ → LineFault → List ℕ
fault_bytes number why = codes "line " ++ decimal number ++ codes " fault " ++ fault_name why ++ codes "\n"
