-- The names that the proofs take from the crates below and from `specs`.
pub use Rattle.ckpt_answers.proofs.ListLemmas.{flat_map-take-next, none_within-absurd, take-next}
pub use Rattle.ckpt_answers.specs.Texts.{spaced}
pub use Rattle.ckpt_ids.specs.Ascending.{IsAscending, ascending}
pub use Rattle.ckpt_ids.specs.declared.subtask.SubtaskId.{SubtaskId}
pub use Rattle.ckpt_lines.specs.CallTexts.{Fits, FitsCall, FitsShape, FitsSubtask, IsReadAs, IsScriptLine, files_text, fresh_text, line_of_config, parallelisms, retention_text, reused_text, subtask_text}
unfoldable pub use Rattle.ckpt_lines.specs.CallTexts.{call_text, config_text, job_text, limits_text, settings_text, start_text, triggers_text}
pub use Rattle.ckpt_lines.specs.Keywords.{keywords, spelling}
unfoldable pub use Rattle.ckpt_lines.specs.Keywords.{keyword_of}
pub use Rattle.ckpt_lines.specs.Reading.{Gives, IsExact, begins_with_a_list, is_comment, is_memory, is_too_long, number_call, place, restoring, row_of, some_parallelisms, ◌>>=◌}
unfoldable pub use Rattle.ckpt_lines.specs.Reading.{ack_line, all_line, config_line, decline_line, each, ended, file_place, file_places, job_line, line_of, number_line, number_place, only_number}
unfoldable pub use Rattle.ckpt_lines.specs.Reading.{reading, restore_line, retention_place, row, settings, start_line, subtask_place, target_place}
pub use Rattle.ckpt_lines.specs.Usual.{BeginsWith, BeginsWithNone, is_long, is_recognized, is_usual}
pub use Rattle.ckpt_lines.specs.Values.{fresh_file, is_dot, is_fresh, is_number, joined, number, retention, reused_file, savepoint, signed, subtask, with_digit}
unfoldable pub use Rattle.ckpt_lines.specs.Values.{file_word, number_of, part_of, subtask_of, target_of}
pub use Rattle.ckpt_lines.specs.Words.{begins_with_space, first_length, is_space, is_word, words_of}
pub use Rattle.ckpt_lines.specs.declared.fault.LineFault.{LineFault}
pub use Rattle.ckpt_lines.specs.declared.keyword.Keyword.{Keyword}
pub use Rattle.ckpt_lines.specs.declared.keyword.Keyword.TheVariants.{Ack, Count, Deleted, Dispose, Savepoint, Take, Tick, Undeleted}
pub use Rattle.ckpt_lines.specs.declared.limits.TheConstants.{LONGEST_LINE}
pub use Rattle.ckpt_lines.specs.declared.line.Line.{Line}
pub use Rattle.ckpt_lines.specs.declared.values.FileWord.{FileWord}
pub use Rattle.ckpt_lines.specs.declared.values.FileWord.TheVariants.{Fresh, Reused}
pub use Rattle.std.proofs.Common.{add-one, length-append, Bool, Err, IfErr, List, None, Ok, Option, Result, Some, [], add-suc, add-zero, ap, append_assoc, arith, cond, drop, eqb, eqb-true, false}
pub use Rattle.std.proofs.Common.{filter, get_or}
pub use Rattle.std.proofs.Common.{if◌then◌else◌, length, length-drop, lt-ltb, ltb, ltb-false, ltb-true, min, not, pow-suc, refl, rules, string_bytes, subst, suc, sym, take, tests, true, zero, ℕ}
pub use Rattle.std.proofs.Common.{⊎_elim, ◌&&◌, ◌*◌, ◌++◌, ◌+◌, ◌-◌, ◌<◌, ◌==◌, ◌^◌, ◌∙◌, ◌∷◌, ◌≡◌, ◌≢◌, ◌≤◌}
pub use Rattle.std.proofs.lemmas.Bool.{and_from, and_parts, cases_Bool, cond-true, le-ltb}
pub use Rattle.std.proofs.lemmas.Bool.Decides.{nat_tests}
pub use Rattle.std.proofs.lemmas.Grind.{common_steps}
pub use Rattle.std.proofs.lemmas.Int.Digits.{digits_value_more}
pub use Rattle.std.proofs.lemmas.Iterator.{YieldsList-from_slice}
pub use Rattle.std.proofs.lemmas.Iterator.Search.{find_from_yields_List, position_from_yields_List}
pub use Rattle.std.proofs.lemmas.List.{append-nil, drop_all, get_or-take, length-take, length-take-le, take_all}
pub use Rattle.std.proofs.lemmas.List.Elements.{All-cons, All-head, All-nil, All-push, All-tail, filter_map-append}
pub use Rattle.std.proofs.lemmas.List.Sums.{fails_before_first, passes_at_first, prefix_len-le-length}
pub use Rattle.std.proofs.lemmas.Result.{err_from_is_err_and}
pub use Rattle.std.proofs.lemmas.Str.Parse.{IsNumeralModel, digits_value-take-le, numerals_by_value, tells_all_ascii_digits}
pub use Rattle.std.specs.Char.{digit_value, is_ascii_digit}
pub use Rattle.std.specs.List.{filter_map, list_all, position_or_len, slice_split}
pub use Rattle.std.specs.Option.{IfNone, ok_or, option_map}
pub use Rattle.std.specs.Prelude.{All, IsTrue, codes, decimal, flat_map, map, slice_get, slice_index, ◌↔◌}
pub use Rattle.std.specs.Str.{all_ascii_digits, bytes_eq}
pub use Rattle.std.specs.Str.Lines.{strip_carriage_return}
pub use Rattle.std.specs.Str.Parse.{digits_value}
