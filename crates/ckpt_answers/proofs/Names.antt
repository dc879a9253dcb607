-- The names that the proofs take from the crates below and from `specs`.
pub use Rattle.ckpt_answers.specs.MetadataTexts.{list, missing, natural}
unfoldable pub use Rattle.ckpt_answers.specs.MetadataTexts.{ack_data, metadata_bytes, metadata_data, missing_subtasks}
pub use Rattle.ckpt_answers.specs.Texts.{spaced}
unfoldable pub use Rattle.ckpt_answers.specs.Texts.{reply_bytes, taken_bytes, tick_end_bytes}
pub use Rattle.ckpt_ids.specs.Shapes.{is_subtask, same_subtask, subtasks}
pub use Rattle.ckpt_ids.specs.declared.ack.Acked.{Acked}
pub use Rattle.ckpt_ids.specs.declared.ack.Metadata.{Metadata}
pub use Rattle.serde_json.specs.Data.{Data, array}
pub use Rattle.serde_json.specs.View.{items_of, items_view, view}
pub use Rattle.serde_json.specs.Written.{compact_text, has_float, items_have_float}
pub use Rattle.std.proofs.Common.{Bool, List, None, Some, [], ap, append-nil, append_assoc, arith, codes, cond, decimal, false, flat_map, get_or, length, map, refl, rules, string_bytes, suc, sym}
pub use Rattle.std.proofs.Common.{take, true, zero, ℕ, ⊎_elim, ◌++◌, ◌+◌, ◌<◌, ◌||◌, ◌∙◌, ◌∷◌, ◌≡◌, ◌≤◌}
pub use Rattle.std.proofs.lemmas.Bool.{both_ways, cases_Bool, false≢true}
pub use Rattle.std.proofs.lemmas.List.{map_push, take_all, take_more}
pub use Rattle.std.proofs.lemmas.List.Sums.{count_by_more_no, count_by_more_yes, length-filter}
pub use Rattle.std.specs.Option.{option_copied, option_map_or}
pub use Rattle.std.specs.Prelude.{Option, count_by, not, slice_get}
