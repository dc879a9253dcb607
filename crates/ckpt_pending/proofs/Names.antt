-- The names that the proofs take from the crates below and from `specs`.
pub use Rattle.ckpt_ids.proofs.CountLemmas.{count_by-all, count_by-none, count_by-same, count_by_no, count_by_yes, counted-from_IsIn}
pub use Rattle.ckpt_ids.proofs.OrderLemmas.{same_subtask-Decides, subtasks_in_order}
pub use Rattle.ckpt_ids.proofs.OrderedLemmas.{ComesBefore-at, ComesBefore-from, IsIn-from_filter, IsIn-from_list_any, IsIn-from_map, IsIn-map, IsIn-put_cases, IsInOrder-append, IsInOrder-filter}
pub use Rattle.ckpt_ids.proofs.OrderedLemmas.{IsInOrder-map, IsInOrder-put_between, fails-from_list_any, filter-all, list_any-from_IsIn, list_any-none, same_from_members}
pub use Rattle.ckpt_ids.proofs.PlaceLemmas.{any_lies, find-none, find_lies, insert_belongs, none_belongs, remove_lies}
pub use Rattle.ckpt_ids.proofs.ResultLemmas.{on_some}
pub use Rattle.ckpt_ids.proofs.SetLemmas.{ascending-from_dedup}
pub use Rattle.ckpt_ids.proofs.ShapeLemmas.{is_subtask_from, length-subtasks_from}
pub use Rattle.ckpt_ids.specs.Acknowledged.{AreInSubtaskOrder, acknowledges_before, is_before, put_ack}
pub use Rattle.ckpt_ids.specs.Ascending.{ascending_set}
pub use Rattle.ckpt_ids.specs.Ordered.{IsIn, IsInOrder, put}
pub use Rattle.ckpt_ids.specs.Places.{BelongsAt, LiesAt}
pub use Rattle.ckpt_ids.specs.Records.{Holder, IsFull, Record, Subtask, Use, has_acknowledged, missing, uses}
pub use Rattle.ckpt_ids.specs.Shapes.{IsShape, is_subtask, same_subtask, subtasks, subtasks_from}
pub use Rattle.ckpt_ids.specs.declared.ack.Acked.{Acked}
pub use Rattle.ckpt_ids.specs.declared.numbers.Kind.{Kind}
pub use Rattle.ckpt_ids.specs.declared.subtask.SubtaskId.{SubtaskId}
pub use Rattle.ckpt_pending.specs.Acknowledging.{Expects, IsCounted, IsDone, IsPending, files_from, pending_record, subtask_of, without_ack}
pub use Rattle.std.proofs.Common.{Bool, Err, IfErr, IfOk, IsErr, IsOk, IsSome, List, None, Ok, OnSome, Option, Result, Some, [], ap, arith, false, get_or, leb, length, ltb, map, not, refl}
pub use Rattle.std.proofs.Common.{rules, suc, sym, true, zero, ℕ, ⊎_elim, ◌&&◌, ◌++◌, ◌+◌, ◌-◌, ◌<◌, ◌||◌, ◌↔◌, ◌∙◌, ◌∷◌, ◌≡◌, ◌≤◌}
pub use Rattle.std.proofs.lemmas.Bool.{and_parts, both_ways, cases_Bool, leb-true, lt-ltb, or_left}
pub use Rattle.std.proofs.lemmas.Bool.Decides.{nat_tests}
pub use Rattle.std.proofs.lemmas.List.{append-nil, map-append}
pub use Rattle.std.proofs.lemmas.List.Sums.{count_by-le-length}
pub use Rattle.std.proofs.lemmas.Option.{slice_get-get_or}
pub use Rattle.std.proofs.lemmas.Result.{IfOk-weaker}
pub use Rattle.std.specs.List.{filter, flat_map, insert, list_any, range_with_len, remove}
pub use Rattle.std.specs.Option.{option_copied, option_map}
pub use Rattle.std.specs.Prelude.{count_by, find}
pub use Rattle.std.specs.Result.{is_ok, result_ok}
pub use Rattle.std.specs.VecDeque.Iter.{deque_iter_rest}
