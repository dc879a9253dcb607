-- The names that the proofs take from the crates below and from `specs`.
pub use Rattle.ckpt_ids.proofs.AscendingLemmas.{numbers_in_order}
pub use Rattle.ckpt_ids.proofs.OrderedLemmas.{IsIn-append_cases, IsIn-from_filter, IsIn-put_cases, IsInOrder-append, IsInOrder-filter, IsInOrder-put_between, list_any-from_IsIn}
pub use Rattle.ckpt_ids.proofs.PlaceLemmas.{all_before, any_lies, end_point, find-none, find_lies, insert-put, none_belongs, remove_lies, some_at}
pub use Rattle.ckpt_ids.proofs.ResultLemmas.{on_some}
pub use Rattle.ckpt_ids.specs.Ordered.{IsIn, put}
pub use Rattle.ckpt_ids.specs.Places.{BelongsAt, LiesAt}
pub use Rattle.ckpt_ids.specs.Records.{Record}
pub use Rattle.ckpt_ids.specs.declared.numbers.Kind.{Kind}
pub use Rattle.ckpt_pending.proofs.AckLemmas.{list_any-filter, list_any-put, list_any_same}
pub use Rattle.ckpt_pending.specs.Acknowledging.{IsDone}
pub use Rattle.ckpt_store.specs.Storing.{AreDone, AreRising, IsAbove, IsStored, Stored, by_id, has_id, has_savepoint, id_of, record_of}
pub use Rattle.std.proofs.Common.{Bool, Bor, Err, IfErr, IfOk, IfSome, List, None, Ok, OnErr, OnOk, Option, Result, Some, [], ap, arith, drop, false, get_or, inr, leb, length, length-append, ltb, not}
pub use Rattle.std.proofs.Common.{refl, rules, subst, suc, sym, true, zero, ℕ, ⊎_elim, ◌&&◌, ◌++◌, ◌+◌, ◌-◌, ◌<◌, ◌^◌, ◌∙◌, ◌∷◌, ◌≡◌, ◌≤◌}
pub use Rattle.std.proofs.lemmas.Bool.{both_ways, eq-eqb, le-leb, lt-leb, lt-ltb, ltb-false, ltb-true, ne_eqb, or_right}
pub use Rattle.std.proofs.lemmas.List.Filters.{length-filter_both}
pub use Rattle.std.proofs.lemmas.List.Sorted.{IsPartitionPoint-from_clause}
pub use Rattle.std.proofs.lemmas.Option.{slice_get-get_or, slice_get_past}
pub use Rattle.std.specs.List.{find, list_any, remove}
pub use Rattle.std.specs.List.Sorted.{IsPartitionPoint, IsPartitionedBy}
pub use Rattle.std.specs.Option.{is_some, option_copied}
pub use Rattle.std.specs.Prelude.{filter, slice_get}
pub use Rattle.std.specs.Result.{is_ok}
pub use Rattle.std.proofs.lemmas.Grind.{common_steps}
