-- The names that the proofs take from the crates below and from `specs`.
pub use Rattle.ckpt_ids.proofs.AscendingLemmas.{IsAscending-from_sorted, ascending_at, numbers_in_order, set-from_distinct}
pub use Rattle.ckpt_ids.proofs.ComparisonLemmas.{eqb_turned}
pub use Rattle.ckpt_ids.proofs.CountLemmas.{AreDistinct-from_times, IsIn-from_counted, IsIn-from_times, count_by-append, count_by-cons, count_by-map, counted-from_IsIn, one_if-false}
pub use Rattle.ckpt_ids.proofs.CountLemmas.{one_if-true, times-append, times-from_IsIn, times_at_most_once}
pub use Rattle.ckpt_ids.proofs.OrderLemmas.{uses_in_order}
pub use Rattle.ckpt_ids.proofs.OrderedLemmas.{AreDistinct-apart, AreDistinct-append, AreDistinct-from_order, AreDistinct-left, AreDistinct-right, ComesBefore-at, ComesBefore-from, IsIn-append_cases}
pub use Rattle.ckpt_ids.proofs.OrderedLemmas.{IsIn-append_left, IsIn-append_right, IsIn-at, IsIn-filter, IsIn-flat_map, IsIn-from_filter, IsIn-from_flat_map, IsIn-from_in_order_once, IsIn-from_map}
pub use Rattle.ckpt_ids.proofs.OrderedLemmas.{IsIn-get_or, IsIn-in_order_once, IsIn-map, IsIn-place, IsInOrder-filter, IsInOrder-in_order_once, IsInOrder-map, IsInOrder-put_between, filter-all}
pub use Rattle.ckpt_ids.proofs.OrderedLemmas.{filter-filter, filter-none, filter-same, same_from_members}
pub use Rattle.ckpt_ids.proofs.PlaceLemmas.{IsInOrder-of_keys, apart_from, filter_lies, insert_belongs, remove_lies}
pub use Rattle.ckpt_ids.proofs.ResultLemmas.{on_each_error}
pub use Rattle.ckpt_ids.proofs.SetLemmas.{ascending-from_dedup, set-from_dedup}
pub use Rattle.ckpt_ids.specs.Ascending.{IsAscending, IsAscendingSet, ascending, ascending_set}
pub use Rattle.ckpt_ids.specs.Counting.{one_if, times}
pub use Rattle.ckpt_ids.specs.Ordered.{AreDistinct, IsIn, IsInOrder, IsStrictOrder, in_order_once, put_once}
pub use Rattle.ckpt_ids.specs.Places.{BelongsAt, LiesAt}
pub use Rattle.ckpt_ids.specs.Records.{Holder, Pin, Subtask, Use, count, is_present, released, same_holder, use_before}
pub use Rattle.ckpt_ids.specs.declared.subtask.SubtaskId.{SubtaskId}
pub use Rattle.ckpt_registry.specs.Counters.{AreInRange, AreLowered, AreReleased, Counts, Released, counted_once, counter}
pub use Rattle.ckpt_registry.specs.Holdings.{Acknowledged, AreRising, Extends, parts_of, uses_by, uses_in}
pub use Rattle.ckpt_registry.specs.RecordParts.{AreCut, IsCutAt, Part, files_in, files_of, parts_from}
pub use Rattle.ckpt_registry.specs.Pins.{AreKept, AreSettled, IsKept, IsLook, IsSettled, each_file, first_of, is_named, named_by, own_files, own_in, own_of, parts_pinned, pinned_by, pins_in}
pub use Rattle.ckpt_registry.specs.Pins.{pins_of_records}
pub use Rattle.ckpt_registry.specs.Sound.{AreCounted, IsSound, StandsOnce, in_use, stored}
pub use Rattle.ckpt_registry.specs.Uses.{HasNoUse, IsEachOnce, after_end, files_by, is_ended, is_owned, pins_by, triples, without, without_record}
pub use Rattle.ckpt_registry.specs.declared.holdings.Holding.{Holding}
pub use Rattle.ckpt_registry.specs.declared.record_parts.Cut.{Cut}
pub use Rattle.ckpt_registry.specs.declared.pins.FirstParts.{FirstParts}
pub use Rattle.ckpt_registry.specs.declared.pins.Look.{Look}
pub use Rattle.ckpt_registry.specs.declared.pins.Pinner.{Pinner}
pub use Rattle.ckpt_registry.specs.declared.pins.Pins.{Pins}
pub use Rattle.ckpt_registry.specs.declared.pins.Pins.TheVariants.{Files, Record}
pub use Rattle.indexmap.proofs.CallerLemmas.{index_map_len-with_value_at, updates-with_value_at}
pub use Rattle.indexmap.specs.IndexMap.{IsUnique, get, index_map_len, keys, spare, values, with_value_at}
pub use Rattle.std.proofs.Common.{Bool, Err, IfOk, List, None, Ok, Option, Result, Some, [], ap, append_assoc, arith, cond, count_by, drop, eqb, false, get_or, if◌then◌else◌, inl, inr}
pub use Rattle.std.proofs.Common.{length, length-append, ltb, map, nat_eq, not, refl, rules, set, subst, suc, sym, take, true, unwrap_or, zero, ℕ, ⊎_elim, ◌&&◌, ◌++◌, ◌+◌, ◌-◌, ◌<◌, ◌^◌, ◌||◌, ◌∙◌}
pub use Rattle.std.proofs.Common.{◌∷◌, ◌≡◌, ◌≤◌, ◌⊎◌}
pub use Rattle.std.proofs.Math.Bool.{or-false}
pub use Rattle.std.proofs.Math.Seq.{take-add}
pub use Rattle.std.proofs.lemmas.Bool.{and_parts, both_ways, cases_Bool, cases_eq, cases_lt, cond-false, cond-true, eq-eqb, eqb-false, eqb-true, false≢true, le-ltb, lt-ltb, ltb-false, ltb-true}
pub use Rattle.std.proofs.lemmas.Bool.{ne_eqb, not-true}
pub use Rattle.std.proofs.lemmas.Bool.Decides.{nat_tests}
pub use Rattle.std.proofs.lemmas.Cmp.{nat_eq_equiv}
pub use Rattle.std.proofs.lemmas.Grind.{common_steps, flat_map-append}
pub use Rattle.std.proofs.lemmas.List.{append-nil, drop-drop, drop-set-lt, drop_at, drop_more, get_or-drop, get_or-take, get_or_at, get_or_default, length-map, length-set, length-take}
pub use Rattle.std.proofs.lemmas.List.{length-take-le, map-append, set-get_or, set_split, take-append-drop, take-append-le, take-take, take_all, take_at, take_more, take_more_set}
pub use Rattle.std.proofs.lemmas.List.Elements.{filter-append}
pub use Rattle.std.proofs.lemmas.List.Filters.{sum_by-filter_both}
pub use Rattle.std.proofs.lemmas.List.Quantifiers.{position-Some}
pub use Rattle.std.proofs.lemmas.List.Sorted.{searched, sum_by-IsPermutation}
pub use Rattle.std.proofs.lemmas.List.Sums.{sum_by-cons, sum_by-take-le, sum_by_more}
pub use Rattle.std.proofs.lemmas.Map.Entries.{hash_map_get_place}
pub use Rattle.std.proofs.lemmas.Map.Keys.{IsDistinct-head, IsDistinct-tail}
pub use Rattle.std.proofs.lemmas.Option.{none-some}
pub use Rattle.std.proofs.lemmas.Slice.{between_from_start, between_is}
pub use Rattle.std.specs.List.{AllByRecursion, IsDistinct, between, filter, flat_map, insert, position, remove, slice_get}
pub use Rattle.std.specs.List.Retain.{DiffersFromLast, IsFiltered}
pub use Rattle.std.specs.List.Sorted.{IsBinarySearchResult, IsPermutation, IsSorted}
pub use Rattle.std.specs.Map.{keys_of, lookup, values_of}
pub use Rattle.std.specs.Option.{is_some}
pub use Rattle.std.specs.Ordering.{nat_cmp}
pub use Rattle.std.specs.Result.{IsOk, OnOk, is_ok}
pub use Rattle.std.specs.Vec.{vec_capacity}
pub use Rattle.std.specs.VecDeque.{deque_with_item}
pub use Rattle.std.specs.declared.alloc.Global.{Global}
pub use Rattle.std.specs.declared.vec.Vec.{Vec}
