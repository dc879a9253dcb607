-- The names that the proofs take from the crates below and from `specs`.
pub use Rattle.ckpt_ids.specs.Ascending.{IsAscending, IsAscendingSet, ascending, ascending_set}
pub use Rattle.ckpt_ids.specs.Counting.{one_if, times}
pub use Rattle.ckpt_ids.specs.Ordered.{AreDistinct, ComesBefore, IsIn, IsInOrder, IsStrictOrder, in_order, in_order_once, put, put_once}
pub use Rattle.ckpt_ids.specs.Places.{BelongsAt, IsSearchOrder, LiesAt}
pub use Rattle.ckpt_ids.specs.Records.{Holder, Pin, Subtask, Use, holder_before, same_holder, use_before}
pub use Rattle.ckpt_ids.specs.Shapes.{IsShape, is_subtask, same_subtask, subtasks, subtasks_from}
pub use Rattle.ckpt_ids.specs.SubtaskOrder.{same_parts}
pub use Rattle.ckpt_ids.specs.declared.subtask.SubtaskId.{SubtaskId}
pub use Rattle.std.proofs.Common.{Bool, Err, IfErr, IfOk, IsSome, List, Ok, OnErr, OnSome, Option, Ordering, Result, Some, [], ap, arith, cond, drop, eqb, false, get_or, inl, inr, leb, length}
pub use Rattle.std.proofs.Common.{length-append, ltb, map, not, refl, rules, subst, suc, sum, sym, take, true, zero, ℕ, ◌&&◌, ◌++◌, ◌+◌, ◌-◌, ◌<◌, ◌||◌, ◌∙◌, ◌∷◌, ◌≡◌, ◌≤◌, ◌⊎◌}
pub use Rattle.std.proofs.lemmas.Bool.{MatchBool-at_true, and_right, both_ways, cases_Bool, cases_lt, cond-false, eq-eqb, eqb-true}
pub use Rattle.std.proofs.lemmas.Bool.{le-ltb, leb-true, lt-ltb, ltb-false, ltb-true, or_from}
pub use Rattle.std.proofs.lemmas.Bool.Decides.{Decides-eqb, nat_tests}
pub use Rattle.std.proofs.lemmas.List.{drop_more, get_or_past, get_or_read_under}
pub use Rattle.std.proofs.lemmas.List.Filters.{dedup_is}
pub use Rattle.std.proofs.lemmas.List.Folds.{list_any-append}
pub use Rattle.std.proofs.lemmas.List.FromFn.{get_or-map-range_with_len, length-map-range_with_len}
pub use Rattle.std.proofs.lemmas.List.Kept.{AllPairs-from_increasing, Contains-dedup_nat, Contains-from_dedup}
pub use Rattle.std.proofs.lemmas.List.Sorted.{Contains-permutation, IsNonDecreasingBy-from_sort, IsPermutation-sym, answers_always, non_decreasing_from_is_sorted, sum_by-IsPermutation}
pub use Rattle.std.proofs.lemmas.List.Sums.{sum_by-append, sum_by-cons, sum_by_push}
pub use Rattle.std.proofs.lemmas.Map.Keys.{IsStrictlyIncreasing-dedup}
pub use Rattle.std.proofs.lemmas.Option.{slice_get-get_or}
pub use Rattle.std.specs.Arc.{arc_slice_items}
pub use Rattle.std.specs.Bool.{Decides}
pub use Rattle.std.specs.List.{AllPairs, Contains, dedup, flat_map, insert, list_any, range_with_len, remove}
pub use Rattle.std.specs.List.Retain.{DiffersFromLast, IsFiltered}
pub use Rattle.std.specs.List.Sorted.{IsBinarySearchResult, IsNonDecreasingBy, IsPartitionPoint, IsPartitionedBy, IsPermutation, IsSearchInRange, IsSorted}
pub use Rattle.std.specs.Ordering.{nat_cmp, ordering_index}
pub use Rattle.std.specs.Prelude.{None, count_by, filter, find, slice_get}
pub use Rattle.std.specs.declared.cmp.Ordering.TheVariants.{Equal, Greater, Less}
pub use Rattle.std.proofs.lemmas.Grind.{common_steps}
