-- The names that the proofs take from the crates below and from `specs`.
pub use Rattle.ckpt_answers.proofs.NoFloats.{no_floats}
pub use Rattle.ckpt_answers.specs.MetadataTexts.{members}
pub use Rattle.ckpt_image.proofs.{Items.left, Items.with_front, Plain.image_depth, Plain.members_have_no_float, Plain.shallow_items, RoundTrip.all, RoundTrip.members_read_back}
pub use Rattle.ckpt_image.specs.{Fits.Fits, Members.number_of, Members.only, Written.image_members}
pub use Rattle.ckpt_model.specs.State.{State}
pub use Rattle.ckpt_names_image.specs.{Named.Fenced, Named.Named, Named.Plain, Named.Saved, Named.named_in, Named.pair_of, Named.span_data}
pub use Rattle.ckpt_terms.specs.declared.names.Span.{Span}
pub use Rattle.serde_json.proofs.Views.{view-Object}
pub use Rattle.serde_json.specs.{Find.get, Read.max_depth, Read.read, View.items_of, View.items_view, View.members_view, View.view, Written.compact_text, Written.has_float}
pub use Rattle.serde_json.specs.{Written.members_have_float, declared.value.Value.Value}
pub use Rattle.serde_json.specs.Data.{Data, Members, depth, items_depth, member, members_depth, no_members, object, put}
pub use Rattle.std.proofs.{lemmas.Bool.cases_Bool, lemmas.Bool.or_parts, lemmas.Result.IfOk-weaker}
pub use Rattle.std.proofs.Common.{Bool, Equal, Greater, Less, List, None, Option, Ordering, Some, [], ap, arith, codes, cond, eqb, false, length, map, nat_cmp, refl, rules, subst, sym, take}
pub use Rattle.std.proofs.Common.{true, ℕ, ⊎_elim, ◌↔◌, ◌∙◌, ◌∷◌, ◌≡◌, ◌≤◌}
pub use Rattle.std.specs.{Cmp.Lexicographic.slice_cmp, Ordering.match_ordering, Prelude.option_and_then, Prelude.option_map}
unfoldable pub use Rattle.ckpt_image.specs.{Images.image_of, Images.image_of_any_version, Images.image_read, Members.version_of}
unfoldable pub use Rattle.ckpt_names_image.specs.Named.{named_bytes, named_data, named_of, names_data, names_of, saved_of, saved_read, span_of}
