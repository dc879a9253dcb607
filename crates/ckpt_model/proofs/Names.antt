-- The names that the proofs take from the crates below and from `specs`.
pub use Rattle.ckpt_ids.proofs.AscendingLemmas.{IsAscending-ascending, ascending_already, numbers_in_order, same_from_times, times-ascending}
pub use Rattle.ckpt_ids.proofs.CountLemmas.{AreDistinct-from_times, IsIn-from_counted, IsIn-from_times, count_by-append, count_by-cons, count_by-none, count_by-same, count_by_no, count_by_yes}
pub use Rattle.ckpt_ids.proofs.CountLemmas.{counted-from_IsIn, times-append, times-filter, times-from_IsIn, times_at_most_once}
pub use Rattle.ckpt_ids.proofs.OrderLemmas.{same_subtask-Decides, subtasks_in_order}
pub use Rattle.ckpt_ids.proofs.OrderedLemmas.{AreDistinct-apart, AreDistinct-append, AreDistinct-filter, AreDistinct-from_order, AreDistinct-left, AreDistinct-right, ComesBefore-at, IsIn-append_cases}
pub use Rattle.ckpt_ids.proofs.OrderedLemmas.{IsIn-append_left, IsIn-append_right, IsIn-filter, IsIn-flat_map, IsIn-from_filter, IsIn-from_flat_map, IsIn-from_in_order, IsIn-from_in_order_once}
pub use Rattle.ckpt_ids.proofs.OrderedLemmas.{IsIn-from_list_any, IsIn-from_map, IsIn-from_test, IsIn-in_order, IsIn-in_order_once, IsIn-map, IsIn-put, IsIn-put_cases, IsIn-put_itself}
pub use Rattle.ckpt_ids.proofs.OrderedLemmas.{IsInOrder-append, IsInOrder-filter, IsInOrder-in_order_once, IsInOrder-map, IsInOrder-put, IsInOrder-put_between, filter-all, filter-same}
pub use Rattle.ckpt_ids.proofs.OrderedLemmas.{list_any-from_IsIn, list_any-none, not_in-from_test, only_one, test-from_IsIn}
pub use Rattle.ckpt_ids.proofs.PlaceLemmas.{find-none}
pub use Rattle.ckpt_ids.proofs.ShapeLemmas.{length-subtasks_from}
pub use Rattle.ckpt_ids.specs.Acknowledged.{AreInSubtaskOrder, acknowledges_before, is_before, put_ack}
pub use Rattle.ckpt_ids.specs.Ascending.{IsAscendingSet, ascending}
pub use Rattle.ckpt_ids.specs.Configuration.{Configuration, IsWithinLimits}
pub use Rattle.ckpt_ids.specs.Counting.{one_if, times}
pub use Rattle.ckpt_ids.specs.Ordered.{AreDistinct, ComesBefore, IsIn, IsInOrder, in_order, put}
pub use Rattle.ckpt_ids.specs.Records.{Pin, Record, Subtask, Use, acknowledged, count, has_acknowledged, is_present, missing, released, uses, uses_of}
pub use Rattle.ckpt_ids.specs.Shapes.{IsShape, is_subtask, same_subtask, subtasks}
pub use Rattle.ckpt_ids.specs.declared.ack.Acked.{Acked}
pub use Rattle.ckpt_ids.specs.declared.call.Call.{Call}
pub use Rattle.ckpt_ids.specs.declared.call.Call.TheVariants.{Ack, Cancel, Configure, Count, Decline, Deleted, Dispose, Restore, Savepoint, Show, Take, Tick, Trigger, Undeleted}
pub use Rattle.ckpt_ids.specs.declared.call.Target.{Target}
pub use Rattle.ckpt_ids.specs.declared.numbers.Kind.{Kind}
pub use Rattle.ckpt_ids.specs.declared.reply.Answer.{Answer}
pub use Rattle.ckpt_ids.specs.declared.reply.Answer.TheVariants.{Done, Refused}
pub use Rattle.ckpt_ids.specs.declared.reply.Choice.{Choice}
pub use Rattle.ckpt_ids.specs.declared.reply.Refusal.{Refusal}
pub use Rattle.ckpt_ids.specs.declared.reply.Refusal.TheVariants.{FileGone, MomentTooLarge, NameTaken, RepeatedFile}
pub use Rattle.ckpt_ids.specs.declared.reply.Refusal.TheVariants.{TooManyFiles}
pub use Rattle.ckpt_ids.specs.declared.reply.Reply.TheVariants.{Ticked}
pub use Rattle.ckpt_ids.specs.declared.subtask.SubtaskId.{SubtaskId}
pub use Rattle.ckpt_model.specs.Histories.{answers, replay}
pub use Rattle.ckpt_model.specs.Images.{AreAlike, CanHold, GoesOnAs, settled}
pub use Rattle.ckpt_model.specs.Interleavings.{AnyOrder, AreApart, AreMissing, NewFile, SameBySeat, SameOutcome, ack_with, calls_of, first_completed, is_completing, of_seat}
pub use Rattle.ckpt_model.specs.Keeping.{IsNewest, Keeps, KeepsThrough, LeavesDone, Restores, TakesNewest, has_done_checkpoint, is_accepted, may_drop, newer_than}
pub use Rattle.ckpt_model.specs.Laws.{NoneLeaks, Outgoing, Accounted, Acknowledgements, AreCalls, Balance, CanOpen, ChoiceIsLive, Exchange, Handed, IsNeverDisposed, NoneAgain, Numbers, Outbox, Part, Pinned, Savepoints}
pub use Rattle.ckpt_model.specs.Laws.{ShareNone, UsedNoMore, accepted_by, ack_of, along, deleted_as, deleted_by, given_as, given_by, handed_by, is_ack_pending, is_ack_taken}
pub use Rattle.ckpt_model.specs.Laws.{id_of_choice, is_disposed_by, new_by, registered_as, registered_by, times_of}
pub use Rattle.ckpt_model.specs.Opening.{open_fault}
pub use Rattle.ckpt_model.specs.Reads.{NoneIsEarlyFrom, NoneTriggersBefore, next_due, triggered_one, was_early}
pub use Rattle.ckpt_model.specs.Refusals.{first_some, has_repeats, is_done_savepoint, is_foreign, is_number, is_repeat, is_running}
pub use Rattle.ckpt_model.specs.Refusals.{moment_of, named, pending_of, refuse_if, savepoints}
pub use Rattle.ckpt_model.specs.Refusals.{was_not_given, where_pending}
unfoldable pub use Rattle.ckpt_model.specs.Refusals.{refusal}
pub use Rattle.ckpt_model.specs.Soundness.{IsCall, IsRecord, IsSound, id_before}
pub use Rattle.ckpt_model.specs.State.{IsUnused, Opening, State, choice_from, chosen, files_of, in_outbox, is_checkpoint, is_done_checkpoint, is_expired, is_known, is_pending, is_surplus, kept}
pub use Rattle.ckpt_model.specs.State.{last_checkpoint, opened, record_of, released_by, unpinned}
unfoldable pub use Rattle.ckpt_model.specs.State.{choice_of, drop, pins_now}
pub use Rattle.ckpt_model.specs.Steps.{Stepped, at_moment, cancelled, cleared, dropped_by, fails_the_job, failures_with, pending_checkpoints, replaced, rolled_back, show, superseded, unless_refused}
pub use Rattle.ckpt_model.specs.Steps.{with_records, without}
unfoldable pub use Rattle.ckpt_model.specs.Steps.{ack, acknowledged_in, after_expiry, cancel, completed_with, decline, decline_pending, dispose, dropping, effect, failed_over, restarted, restore}
unfoldable pub use Rattle.ckpt_model.specs.Steps.{configure, start_or_hold, step, step_computes, take_files, tick, triggered, with_config}
pub use Rattle.ckpt_model.specs.declared.mode.Mode.{Mode}
pub use Rattle.ckpt_model.specs.declared.mode.Mode.TheVariants.{Cancelled, Failed, Running}
pub use Rattle.ckpt_pending.proofs.FullLemmas.{full_from_missing}
pub use Rattle.ckpt_pending.proofs.SubtaskLemmas.{IsIn-subtasks, IsInOrder-subtasks, count_by_one_more, is_subtask-from_IsIn, same_subtask-itself}
pub use Rattle.ckpt_rules.specs.Trigger.{gap, hold, limit, pause_ends}
pub use Rattle.ckpt_rules.specs.declared.hold.Hold.{Hold}
pub use Rattle.ckpt_rules.specs.declared.hold.Hold.TheVariants.{AtOnce, Go, Interval, Pause}
pub use Rattle.std.proofs.Common.{Bool, List, [], ap, arith, cond, eqb, false, inl, inr, leb, length, ltb, map, max, not, refl, subst, suc, sum, sym, take, true, zero, ℕ, ⊎_elim, ◌%◌, ◌&&◌, ◌++◌, ◌+◌}
pub use Rattle.std.proofs.Common.{◌<◌, ◌^◌, ◌||◌, ◌∙◌, ◌∷◌, ◌≡◌, ◌≢◌, ◌≤◌, ◌⊎◌}
pub use Rattle.std.proofs.lemmas.Bool.{and_cases, and_from, and_left, and_parts, and_right, both_ways, cases_Bool, cases_lt, cond-false, cond-true, cond_both, eq-eqb, eqb-false, eqb-true, le-ltb}
pub use Rattle.std.proofs.lemmas.Bool.{leb-false, lt-ltb, ltb-false, ltb-true, ne_eqb, not-false, not-true, not_from_false, not_from_true, or_from, or_left, or_parts}
pub use Rattle.std.proofs.lemmas.List.{append-nil, append_assoc, length-drop, map-append, map-id, take-append-drop}
pub use Rattle.std.proofs.lemmas.List.Folds.{list_any-append}
pub use Rattle.std.proofs.lemmas.List.Sums.{sum_by-cons}
pub use Rattle.std.proofs.lemmas.Option.{none-some}
pub use Rattle.std.specs.List.{enumerate_from, filter, flat_map, list_any, range_with_len}
pub use Rattle.std.specs.Option.{is_some, option_or}
pub use Rattle.std.specs.Prelude.{None, Option, Some, count_by, find, unwrap_or, ⊤}
pub use Rattle.std.proofs.lemmas.Grind.{common_steps}
