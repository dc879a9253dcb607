-- Worked lines: what the definitions read and print, computed. The expected ones were written by hand, from docs/LOGS.md.
use Rattle.std.specs.Prelude.{◌≡◌, true, [], ◌∷◌, ◌++◌, refl, codes, decimal, Ok, Err}
use Rattle.ckpt_ids.specs.{Configuration.configured, declared.reply.Answer.TheVariants.Refused}
use Rattle.ckpt_ids.specs.declared.call.Call.TheVariants as made
use Rattle.ckpt_ids.specs.declared.reply.Refusal.TheVariants as refusal
use Rattle.ckpt_lines.specs.declared.fault.LineFault.TheVariants as fault
use Rattle.ckpt_lines.specs.declared.line.Line.TheVariants as script
use Rattle.ckpt_lines.specs.{Keywords.keyword_of, CallTexts.call_text}
use Rattle.ckpt_lines.specs.Reading.{line_of, row, number_line, only_number, start_line, ack_line, restore_line, number_place, subtask_place, target_place, file_places, each, ended, retention_place, settings}
use Rattle.ckpt_lines.specs.Values.{number_of, part_of, subtask_of, target_of, file_word}
use Rattle.ckpt_answers.specs.Texts.{answer_bytes, refusal_bytes}
use Rattle.ckpt_terms.specs.declared.call.FencedAnswer.TheVariants.{Reserved, Forfeited, Made, Fenced}
use Rattle.ckpt_terms.specs.declared.call.FencedCall.TheVariants as call
use Rattle.ckpt_terms.specs.declared.call.FencedRefusal.TheVariants.{OldTerm, Spent, NeverReserved, BadName}
use Rattle.ckpt_term_lines.specs.declared.line.TermLine.TheVariants.{Fence, Call, Other, BadConfig, NoCall}
use Rattle.ckpt_term_lines.specs.{AnswerTexts.fence_refusal_bytes, AnswerTexts.fenced_answer_bytes, TermKeywords.term_keyword_of, TermTexts.term_text}
use Rattle.ckpt_term_lines.specs.TermReading.{configure_row, fence_row, forfeit_row, in_row, made_line, plain_row, reserve_row, script_row, term_line_of, term_reading, term_row, trigger_row, advance_row}

pub first_name : term_reading (codes " fence  007" ++ 13 ∷ []) ≡ Ok (Fence 7)
unfolding term_reading term_line_of term_keyword_of term_row fence_row only_number number_place number_of ended
first_name = refl

pub no_name : term_reading (codes "fence") ≡ Err fault.Missing
unfolding term_reading term_line_of term_keyword_of term_row fence_row only_number number_place
no_name = refl

pub reservation : term_reading (codes "reserve 2 1000") ≡ Ok (Call (call.Reserve 2 1000))
unfolding term_reading term_line_of term_keyword_of term_row reserve_row only_number number_place number_of ended
reservation = refl

pub one_word_more : term_reading (codes "reserve 2 1000 5") ≡ Err fault.Extra
unfolding term_reading term_line_of term_keyword_of term_row reserve_row only_number number_place number_of ended
one_word_more = refl

-- the names may come in any order, and there may be none
pub names : term_reading (codes "forfeit 1 9 7 8") ≡ Ok (Call (call.Forfeit 1 (7 ∷ 8 ∷ 9 ∷ [])))
unfolding term_reading term_line_of term_keyword_of term_row forfeit_row number_place number_of each
names = refl

pub no_names : term_reading (codes "forfeit 1") ≡ Ok (Call (call.Forfeit 1 []))
unfolding term_reading term_line_of term_keyword_of term_row forfeit_row number_place number_of each
no_names = refl

-- a name has no sign
pub signed_name : term_reading (codes "forfeit 1 +7") ≡ Err fault.Number
unfolding term_reading term_line_of term_keyword_of term_row forfeit_row number_place number_of each
signed_name = refl

-- the moment, the greatest term that was told, and the first name
pub advance : term_reading (codes "advance 2500 9 5000") ≡ Ok (Call (call.Advance 2500 9 5000))
unfolding term_reading term_line_of term_keyword_of term_row advance_row only_number number_place number_of ended
advance = refl

pub advance_with_a_sign : term_reading (codes "advance 2500 9 +7") ≡ Err fault.Number
unfolding term_reading term_line_of term_keyword_of term_row advance_row only_number number_place number_of
advance_with_a_sign = refl

pub advance_without_a_name : term_reading (codes "advance 2500 9") ≡ Err fault.Missing
unfolding term_reading term_line_of term_keyword_of term_row advance_row only_number number_place number_of
advance_without_a_name = refl

pub advances_in_a_term : term_reading (codes "in 3 advance 2500 9 5000") ≡ Err fault.Word
unfolding term_reading term_line_of term_keyword_of term_row in_row made_line script_row number_place number_of line_of keyword_of
advances_in_a_term = refl

pub ack_in_term : term_reading (codes "in 3 ack 5 1 0.2 =3 +4") ≡ Ok (Call (call.Make 3 (made.Ack 5 1 (record { vertex = 0; index = 2 }) (4 ∷ []) (3 ∷ []))))
unfolding term_reading term_line_of term_keyword_of term_row in_row made_line script_row number_place number_of line_of keyword_of row ack_line subtask_place subtask_of part_of file_places each file_word
ack_in_term = refl

pub term_alone : term_reading (codes "in 3 ") ≡ Err fault.Missing
unfolding term_reading term_line_of term_keyword_of term_row in_row made_line script_row number_place number_of
term_alone = refl

pub term_twice : term_reading (codes "in 3 in 3 tick 5") ≡ Err fault.Word
unfolding term_reading term_line_of term_keyword_of term_row in_row made_line script_row number_place number_of line_of keyword_of
term_twice = refl

pub reserves_in_a_term : term_reading (codes "in 3 reserve 3 1") ≡ Err fault.Word
unfolding term_reading term_line_of term_keyword_of term_row in_row made_line script_row number_place number_of line_of keyword_of
reserves_in_a_term = refl

pub no_term : term_reading (codes "in tick 5") ≡ Err fault.Number
unfolding term_reading term_line_of term_keyword_of term_row in_row made_line script_row number_place number_of
no_term = refl

pub script_line : term_reading (codes "tick 5") ≡ Ok (Call (call.Make 0 (made.Tick 5)))
unfolding term_reading term_line_of term_keyword_of plain_row line_of keyword_of row number_line only_number number_place number_of ended
script_line = refl

pub unknown : term_reading (codes "reserved 5") ≡ Err fault.Word
unfolding term_reading term_line_of term_keyword_of plain_row line_of keyword_of
unknown = refl

pub call_in_term : term_reading (codes "in 3 cancel 5") ≡ Ok (Call (call.Make 3 (made.Cancel 5)))
unfolding term_reading term_line_of term_keyword_of term_row in_row made_line script_row number_place number_of line_of keyword_of row number_line only_number ended
call_in_term = refl

pub start_in_term : term_reading (codes "in 3 start 5") ≡ Ok NoCall
unfolding term_reading term_line_of term_keyword_of term_row in_row made_line script_row number_place number_of line_of keyword_of row start_line only_number ended
start_in_term = refl

pub start_of_a_script : term_reading (codes "start 5") ≡ Ok (Other (script.Start 5))
unfolding term_reading term_line_of term_keyword_of plain_row line_of keyword_of row start_line only_number number_place number_of ended
start_of_a_script = refl

pub bad_shape_in_term : term_reading (codes "in 3 restore 5 latest 0") ≡ Ok (Other script.BadShape)
unfolding term_reading term_line_of term_keyword_of term_row in_row made_line script_row number_place number_of line_of keyword_of row restore_line target_place target_of each
bad_shape_in_term = refl

-- the two calls that scripts do not have, without a term and with one
pub checkpoint_now : term_reading (codes "trigger 5") ≡ Ok (Call (call.Make 0 (made.Trigger 5)))
unfolding term_reading term_line_of term_keyword_of term_row trigger_row only_number number_place number_of ended
checkpoint_now = refl

pub checkpoint_in_term : term_reading (codes "in 3 trigger 5") ≡ Ok (Call (call.Make 3 (made.Trigger 5)))
unfolding term_reading term_line_of term_keyword_of term_row in_row made_line trigger_row only_number number_place number_of ended
checkpoint_in_term = refl

pub other_settings : term_reading (codes "configure 5 1000 0 1 500 2 3 keep") ≡ Ok (Call (call.Make 0 (made.Configure 5 (configured 1000 0 1 500 2 3 true))))
unfolding term_reading term_line_of term_keyword_of term_row configure_row settings number_place number_of retention_place ended
other_settings = refl

-- an interval has 10 milliseconds at least
pub bad_settings : term_reading (codes "in 3 configure 5 9 0 1 500 2 3 keep") ≡ Ok BadConfig
unfolding term_reading term_line_of term_keyword_of term_row in_row made_line configure_row settings number_place number_of retention_place ended
bad_settings = refl

pub too_few_settings : term_reading (codes "configure 5 1000 0 1 500 2 3") ≡ Err fault.Missing
unfolding term_reading term_line_of term_keyword_of term_row configure_row settings number_place number_of retention_place
too_few_settings = refl

-- how calls are written
pub writes_a_reservation : term_text (call.Reserve 2 1000) ≡ codes "reserve " ++ (decimal 2 ++ (codes " " ++ decimal 1000))
unfolding term_text
writes_a_reservation = refl

pub writes_no_names : term_text (call.Forfeit 1 []) ≡ codes "forfeit " ++ (decimal 1 ++ [])
unfolding term_text
writes_no_names = refl

pub writes_an_advance : term_text (call.Advance 5 2 70) ≡ codes "advance " ++ ((decimal 5 ++ (codes " " ++ decimal 2)) ++ (codes " " ++ decimal 70))
unfolding term_text
writes_an_advance = refl

pub writes_a_term : term_text (call.Make 3 (made.Cancel 5)) ≡ codes "in " ++ (decimal 3 ++ codes " " ++ (codes "cancel " ++ decimal 5))
unfolding term_text call_text
writes_a_term = refl

pub writes_no_term : term_text (call.Make 0 (made.Tick 5)) ≡ codes "tick " ++ decimal 5
unfolding term_text call_text
writes_no_term = refl

-- how answers are printed
pub reserved : fenced_answer_bytes (Reserved 41) ≡ codes "reserved " ++ (decimal 41 ++ codes "\n")
unfolding fenced_answer_bytes
reserved = refl

pub forfeited : fenced_answer_bytes Forfeited ≡ codes "forfeited\n"
unfolding fenced_answer_bytes
forfeited = refl

pub term_stays : fenced_answer_bytes (Made 2 (Refused refusal.NotRunning)) ≡ codes "refused NotRunning\n"
unfolding fenced_answer_bytes answer_bytes refusal_bytes
term_stays = refl

pub old_term : fenced_answer_bytes (Fenced OldTerm) ≡ codes "fenced OldTerm\n"
unfolding fenced_answer_bytes fence_refusal_bytes
old_term = refl

pub bad_name : fenced_answer_bytes (Fenced BadName) ≡ codes "fenced BadName\n"
unfolding fenced_answer_bytes fence_refusal_bytes
bad_name = refl

pub spent : fenced_answer_bytes (Fenced (Spent 41)) ≡ codes "fenced Spent " ++ (decimal 41 ++ codes "\n")
unfolding fenced_answer_bytes fence_refusal_bytes
spent = refl

pub never_reserved : fenced_answer_bytes (Fenced (NeverReserved 41)) ≡ codes "fenced NeverReserved " ++ (decimal 41 ++ codes "\n")
unfolding fenced_answer_bytes fence_refusal_bytes
never_reserved = refl
