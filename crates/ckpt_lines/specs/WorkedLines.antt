-- Worked lines: what the definitions read, computed. The expected readings were written by hand, from the rules.
use Rattle.std.specs.Prelude.{◌≡◌, ◌-◌, ◌^◌, true, [], ◌∷◌, ◌++◌, refl, codes, Some, None, Ok, Err}
use Rattle.ckpt_ids.specs.declared.call.Call.TheVariants as call
use Rattle.ckpt_ids.specs.declared.call.Target.TheVariants as target
use Rattle.ckpt_lines.specs.declared.fault.LineFault.TheVariants as fault
use Rattle.ckpt_lines.specs.declared.keyword.Keyword.TheVariants as keyword
use Rattle.ckpt_lines.specs.declared.line.Line.TheVariants.{Skip, Config, Job, Start, Call, BadShape}
use Rattle.ckpt_lines.specs.Keywords.{keyword_of}
use Rattle.ckpt_lines.specs.Reading.{reading, line_of, row, number_line, only_number, start_line, job_line, ack_line, restore_line, config_line, settings, number_place}
use Rattle.ckpt_lines.specs.Reading.{subtask_place, target_place, retention_place, file_places, each, ended}
use Rattle.ckpt_lines.specs.Usual.{IsUsual}
use Rattle.ckpt_lines.specs.Values.{number_of, part_of, subtask_of, target_of, file_word}

-- spaces, and a carriage return
pub spaces : reading (codes "  tick   8 " ++ 13 ∷ []) ≡ Ok (Call (call.Tick 8))
unfolding reading line_of keyword_of row number_line only_number number_place number_of ended
spaces = refl

pub return_inside : reading (codes "tick 8" ++ (13 ∷ codes " ")) ≡ Err fault.Number
unfolding reading line_of keyword_of row number_line only_number number_place number_of ended
return_inside = refl

pub nothing : reading (codes "   ") ≡ Ok Skip
unfolding reading line_of
nothing = refl

pub comment : reading (codes "# note") ≡ Ok Skip
unfolding reading line_of
comment = refl

pub configuration : reading (codes "config 1000 0 1 500 2 3 keep") ≡ Ok (Config 1000 0 1 500 2 3 true)
unfolding reading line_of keyword_of row config_line settings number_place number_of retention_place ended
configuration = refl

pub job : reading (codes "job 007 2") ≡ Ok (Job (7 ∷ 2 ∷ []))
unfolding reading line_of keyword_of row job_line each number_of
job = refl

pub empty_job : reading (codes "job") ≡ Err fault.Missing
unfolding reading line_of keyword_of row job_line each number_of
empty_job = refl

pub files : reading (codes "ack 5 1 0.2 =3 +9 +4") ≡ Ok (Call (call.Ack 5 1 (record { vertex = 0; index = 2 }) (4 ∷ 9 ∷ []) (3 ∷ [])))
unfolding reading line_of keyword_of row ack_line number_place number_of subtask_place subtask_of part_of file_places each file_word
files = refl

pub no_sign : reading (codes "ack 5 1 0.0 4") ≡ Err fault.Word
unfolding reading line_of keyword_of row ack_line number_place number_of subtask_place subtask_of part_of file_places each file_word
no_sign = refl

pub large_index : reading (codes "ack 5 1 0.65536") ≡ Err fault.Number
unfolding reading line_of keyword_of row ack_line number_place number_of subtask_place subtask_of part_of file_places each file_word
large_index = refl

pub shape_stays : reading (codes "restore 5 latest") ≡ Ok (Call (call.Restore 5 target.Latest None))
unfolding reading line_of keyword_of row restore_line number_place number_of target_place target_of each
shape_stays = refl

pub new_shape : reading (codes "restore 5 2 2 1") ≡ Ok (Call (call.Restore 5 (target.Savepoint 2) (Some (2 ∷ 1 ∷ []))))
unfolding reading line_of keyword_of row restore_line number_place number_of target_place target_of each
new_shape = refl

-- a vertex has one subtask at least
pub bad_shape : reading (codes "restore 5 latest 2 0") ≡ Ok BadShape
unfolding reading line_of keyword_of row restore_line number_place number_of target_place target_of each
bad_shape = refl

pub start : reading (codes "start 007") ≡ Ok (Start 7)
unfolding reading line_of keyword_of row start_line only_number number_place number_of ended
start = refl

pub cancel : reading (codes "cancel 5") ≡ Ok (Call (call.Cancel 5))
unfolding reading line_of keyword_of row number_line only_number number_place number_of ended
cancel = refl

pub late : reading (codes "restore 5 late") ≡ Err fault.Number
unfolding reading line_of keyword_of row restore_line number_place number_of target_place target_of each
late = refl

pub greatest : reading (codes "take 18446744073709551615") ≡ Ok (Call (call.Take (2 ^ 64 - 1)))
unfolding reading line_of keyword_of row number_line only_number number_place number_of ended
greatest = refl

pub too_great : reading (codes "take 18446744073709551616") ≡ Err fault.Number
unfolding reading line_of keyword_of row number_line only_number number_place number_of ended
too_great = refl

pub further_word : reading (codes "show 1 2") ≡ Err fault.Extra
unfolding reading line_of keyword_of row number_line only_number number_place number_of ended
further_word = refl

pub unknown : reading (codes "Tick 5") ≡ Err fault.Word
unfolding reading line_of keyword_of
unknown = refl

-- scripts have no line for these two calls
pub no_trigger : reading (codes "trigger 5") ≡ Err fault.Word
unfolding reading line_of keyword_of
no_trigger = refl

pub no_configure : reading (codes "configure 5 1000 0 1 500 2 3 keep") ≡ Err fault.Word
unfolding reading line_of keyword_of
no_configure = refl

-- the number may have spaces around it
pub usual : IsUsual (codes "take   5 " ++ 13 ∷ [])
unfolding only_number number_place number_of ended
usual = record { keyword = keyword.Take; rest = codes "  5 "; number = 5; short = refl; usual = refl; begins = refl; numbered = refl }
