-- What is printed for an answer of a job that gives out names.
use Rattle.std.specs.Prelude.{ℕ, List, [], ◌++◌, codes}
use Rattle.ckpt_ids.specs.{declared.reply.Reply.TheVariants.Restored, declared.reply.Reply.TheVariants.Cancelled, declared.reply.Answer.Answer}
use Rattle.ckpt_ids.specs.declared.reply.Answer.TheVariants.{Done}
use Rattle.ckpt_terms.specs.{declared.call.FencedRefusal.FencedRefusal, declared.call.FencedAnswer.FencedAnswer}
use Rattle.ckpt_terms.specs.declared.call.FencedRefusal.TheVariants.{OldTerm, Ended, BadCount, NamesUsedUp, TermsUsedUp, BadName, Spent, NeverReserved}
use Rattle.ckpt_terms.specs.declared.call.FencedAnswer.TheVariants.{Reserved, Forfeited, Made, Fenced}
use Rattle.ckpt_answers.specs.Texts.{answer_bytes, spaced}

-- why a call did not reach the coordinator, and the file that is to blame
unfoldable pub fence_refusal_bytes : FencedRefusal → List ℕ
fence_refusal_bytes OldTerm = codes "OldTerm"
fence_refusal_bytes Ended = codes "Ended"
fence_refusal_bytes BadCount = codes "BadCount"
fence_refusal_bytes NamesUsedUp = codes "NamesUsedUp"
fence_refusal_bytes TermsUsedUp = codes "TermsUsedUp"
fence_refusal_bytes BadName = codes "BadName"
fence_refusal_bytes (Spent file) = codes "Spent" ++ spaced file
fence_refusal_bytes (NeverReserved file) = codes "NeverReserved" ++ spaced file

-- A restore, an advance and a cancel that were accepted ended the term. The one that runs after the call has a line of its own.
abbrev pub new_term_bytes : ℕ → Answer → List ℕ
new_term_bytes term (Done (Restored from released)) = codes "term" ++ spaced term ++ codes "\n"
new_term_bytes term (Done (Cancelled dropped released)) = codes "term" ++ spaced term ++ codes "\n"
new_term_bytes term answer = []

-- the text of an answer, with a newline at its end
unfoldable pub fenced_answer_bytes : FencedAnswer → List ℕ
fenced_answer_bytes (Reserved first) = codes "reserved" ++ spaced first ++ codes "\n"
fenced_answer_bytes Forfeited = codes "forfeited\n"
fenced_answer_bytes (Made term answer) = answer_bytes answer ++ new_term_bytes term answer
fenced_answer_bytes (Fenced why) = codes "fenced " ++ fence_refusal_bytes why ++ codes "\n"
