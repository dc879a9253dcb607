-- The names that the proofs take from the crates below and from `specs`.
pub use Rattle.ckpt_answers.proofs.{ListLemmas.flat_map-take-next, ListLemmas.none_within-absurd}
pub use Rattle.ckpt_answers.specs.Texts.{spaced}
pub use Rattle.ckpt_ids.proofs.LimitLemmas.{limits_hold}
pub use Rattle.ckpt_ids.specs.{Ascending.IsAscending, Ascending.ascending, Configuration.Configuration, Configuration.IsWithinLimits, declared.call.Call.Call}
pub use Rattle.ckpt_lines.proofs.{EachLemmas.fails, EachLemmas.goes_on, EachLemmas.is_done, EachLemmas.with_front, EachLemmas.with_front-nil, LineLemmas.Each, LineLemmas.IsWritten}
pub use Rattle.ckpt_lines.proofs.{LineLemmas.each_next, LineLemmas.from_all, LineLemmas.next, LineLemmas.no_strip, LineLemmas.plain_by, ListLemmas.HasBegun, ListLemmas.begun}
pub use Rattle.ckpt_lines.proofs.PieceLemmas.{fit-next}
pub use Rattle.ckpt_lines.proofs.NumberWords.{each-numbers, number_place-decimal, plain_number, plain_numbers, stays}
pub use Rattle.ckpt_lines.proofs.ReadBack.{Says, configure_parts, configure_written, is_scripted, one, only, parts_4, says_call, settings_read, settings_words, trigger_written}
pub use Rattle.ckpt_lines.proofs.ReadingLaws.{NoMemory, bind, either, line_of-no_memory, number_then, numbers-no_memory, only-no_memory, settings-no_memory}
pub use Rattle.ckpt_lines.specs.{CallTexts.Fits, CallTexts.FitsCall, CallTexts.settings_text, Values.number, Words.words_of, declared.fault.LineFault.LineFault}
pub use Rattle.ckpt_lines.specs.{declared.limits.TheConstants.LONGEST_LINE, declared.line.Line.Line}
pub use Rattle.ckpt_lines.specs.Reading.{begins_with_a_list, begins_with_a_number, each, is_memory, is_too_long, number_place, only_number, settings}
pub use Rattle.ckpt_term_lines.specs.{TermKeywords.term_keywords, TermKeywords.term_spelling, TermReading.TermBegins, TermReading.made_row, TermReading.name_places, TermReading.term_row_of}
pub use Rattle.ckpt_term_lines.specs.{TermReading.without_term, TermTexts.FitsTermCall, TermTexts.IsTermReadAs, TermTexts.made_text, declared.keyword.TermKeyword.TermKeyword}
pub use Rattle.ckpt_term_lines.specs.{declared.keyword.TermKeyword.TheVariants.Advance, declared.keyword.TermKeyword.TheVariants.Configure, declared.keyword.TermKeyword.TheVariants.Fence}
pub use Rattle.ckpt_term_lines.specs.{declared.keyword.TermKeyword.TheVariants.Forfeit, declared.keyword.TermKeyword.TheVariants.In, declared.keyword.TermKeyword.TheVariants.Reserve}
pub use Rattle.ckpt_term_lines.specs.{declared.keyword.TermKeyword.TheVariants.Trigger, declared.line.TermLine.TermLine}
pub use Rattle.ckpt_terms.specs.declared.call.FencedCall.{FencedCall}
pub use Rattle.std.proofs.{lemmas.Iterator.Search.find_from_yields_List, lemmas.Iterator.YieldsList-from_slice, lemmas.List.length-take, lemmas.List.take_all}
pub use Rattle.std.proofs.{lemmas.Result.err_from_is_err_and, lemmas.Slice.Eq.bytes_eq-Decides}
pub use Rattle.std.proofs.Common.{Bool, Err, List, None, Ok, Option, Result, Some, [], ap, append_assoc, arith, cond, eqb, false, inl, inr, length, min, refl, rules, string_bytes, subst}
pub use Rattle.std.proofs.Common.{sym, take, tests, true, ℕ, ⊎_elim, ◌++◌, ◌+◌, ◌<◌, ◌∙◌, ◌∷◌, ◌≡◌, ◌≢◌, ◌≤◌}
pub use Rattle.std.proofs.lemmas.Bool.{cases_Bool, cond-true, eqb-true, le-ltb, lt-ltb, ltb-false, ltb-true}
pub use Rattle.std.specs.{Option.ok_or, Prelude.All, Prelude.codes, Prelude.decimal, Prelude.find, Prelude.flat_map, Prelude.map, Str.Lines.strip_carriage_return, Str.bytes_eq}
unfoldable pub use Rattle.ckpt_lines.specs.{CallTexts.call_text, Keywords.keyword_of, Reading.line_of, Reading.reading}
unfoldable pub use Rattle.ckpt_term_lines.specs.{TermKeywords.term_keyword_of, TermTexts.fence_text, TermTexts.term_text}
unfoldable pub use Rattle.ckpt_term_lines.specs.TermReading.{advance_row, configure_row, fence_row, forfeit_row, in_row, in_takes_memory, made_line, plain_row, reaches_names, reserve_row}
unfoldable pub use Rattle.ckpt_term_lines.specs.TermReading.{script_row, term_line_of, term_reading, term_row, trigger_row}
