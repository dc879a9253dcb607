-- The names that the proofs take from the crates below and from `specs`.
pub use Rattle.ckpt_answers.specs.MetadataTexts.{kind_name, list, members, natural, state_name}
pub use Rattle.ckpt_ids.proofs.OrderedLemmas.{ComesBefore-at, ComesBefore-from, IsIn-append_cases, IsIn-from_map}
pub use Rattle.ckpt_ids.specs.Acknowledged.{AreInSubtaskOrder, acknowledges_before}
pub use Rattle.ckpt_ids.specs.Configuration.{Configuration, IsWithinLimits, is_within_limits}
pub use Rattle.ckpt_ids.specs.Ordered.{IsIn}
pub use Rattle.ckpt_ids.specs.Records.{Record}
pub use Rattle.ckpt_ids.specs.declared.ack.Acked.{Acked}
pub use Rattle.ckpt_image.specs.Fits.{AckFits, Fits, RecordFits}
unfoldable pub use Rattle.ckpt_image.specs.Images.{image_of, image_of_any_version, image_read}
pub use Rattle.ckpt_image.specs.Members.{are_in_subtask_order, each, list_of, number_below, number_of, only, optional_of}
unfoldable pub use Rattle.ckpt_image.specs.Members.{ack_of, acks_of, clock_of, config_of, files_of, kind_of, mode_of, opening_of, outbox_of, saved_of, shape_of, state_of, version_of}
pub use Rattle.ckpt_image.specs.Written.{image_members, mode_name, naturals, optional}
unfoldable pub use Rattle.ckpt_image.specs.Written.{ack_data, clock_data, config_data, image_bytes, image_data, opening_data, outbox_data, record_data}
pub use Rattle.ckpt_model.specs.Images.{record_in, state_in}
pub use Rattle.ckpt_model.specs.State.{Opening, State}
pub use Rattle.ckpt_model.specs.declared.image.Saved.{Saved}
pub use Rattle.serde_json.specs.Data.{Data, Members, array, boolean, depth, items_depth, member, members_depth, no_members, null, number, object, string}
pub use Rattle.serde_json.specs.Read.{max_depth}
pub use Rattle.serde_json.specs.View.{items_of, items_view, view}
pub use Rattle.serde_json.specs.Written.{compact_text, has_float}
pub use Rattle.serde_json.specs.declared.value.Value.{Value}
pub use Rattle.std.proofs.Common.{Bool, List, None, Option, Some, [], add-one, ap, arith, drop, false, get_or, inl, inr, length, map, refl, rules, subst, suc, sym, take, true, zero, ℕ, ⊎_elim, ◌&&◌}
pub use Rattle.std.proofs.Common.{◌++◌, ◌+◌, ◌<◌, ◌^◌, ◌∙◌, ◌∷◌, ◌≡◌, ◌≤◌}
pub use Rattle.std.proofs.lemmas.Bool.{and_from, and_parts, and_right, lt-ltb}
pub use Rattle.std.proofs.lemmas.List.{map_push, take_all, take_more}
pub use Rattle.std.specs.Option.{option_map}
pub use Rattle.std.specs.Prelude.{Err, Ok, OnOk, Result, max, nat_lt, option_and_then}
