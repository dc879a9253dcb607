-- What a log prints: the outcomes of its lines.
use Rattle.std.specs.Prelude.{ℕ, List, ◌++◌, codes}
use Rattle.ckpt_terms.specs.declared.machine.FenceFault.{FenceFault}
use Rattle.ckpt_terms.specs.declared.machine.FenceFault.TheVariants.{HasNames, BadName, NameInUse, Memory}
use Rattle.ckpt_session.specs.ScriptTexts.{outcome_bytes}
use Rattle.ckpt_term_lines.specs.AnswerTexts.{fenced_answer_bytes}
use Rattle.ckpt_log.specs.{declared.outcome.LogOutcome.LogOutcome, declared.outcome.LogRefusal.LogRefusal}
use Rattle.ckpt_log.specs.declared.outcome.LogOutcome.TheVariants.{Script, Refused, Began, Answered}
use Rattle.ckpt_log.specs.declared.outcome.LogRefusal.TheVariants.{NoNames, NoCall, NoFence}

abbrev pub fence_fault_name : FenceFault → List ℕ
fence_fault_name HasNames = codes "HasNames"
fence_fault_name BadName = codes "BadName"
fence_fault_name NameInUse = codes "NameInUse"
fence_fault_name Memory = codes "Memory"

abbrev pub log_refusal_name : LogRefusal → List ℕ
log_refusal_name NoNames = codes "NoNames"
log_refusal_name NoCall = codes "NoCall"
log_refusal_name (NoFence why) = fence_fault_name why

-- what is printed of an outcome, with a newline at its end; the term that begins with names is the first
unfoldable pub log_outcome_bytes : LogOutcome → List ℕ
log_outcome_bytes (Script outcome) = outcome_bytes outcome
log_outcome_bytes (Refused why) = codes "refused " ++ log_refusal_name why ++ codes "\n"
log_outcome_bytes Began = codes "term 1\n"
log_outcome_bytes (Answered answer) = fenced_answer_bytes answer
