-- The names that the proofs take from the crates below and from `specs`.
pub use Rattle.ckpt_core.specs.Inside.Grouped.{grouped, is_pin, pins, pins_of, records_of, with_pins}
pub use Rattle.ckpt_core.specs.Inside.Loading.{AreFilesApart, IsMade, emptied, uses_held, uses_of_acks, with_more_waiting}
pub use Rattle.ckpt_core.specs.Inside.Moving.{checkpoint_completed, handed_after, left_pending, paused, savepoint_completed, taken_in, with_checkpoint, with_done, with_room}
pub use Rattle.ckpt_core.specs.Inside.Parts.{Answers, AreSound, AreTied, Drops, IsAccepted, IsPlaceIn, IsPlaceOf, Stays, is_known_in, is_noted, opening_of, records_in}
pub use Rattle.ckpt_core.specs.Inside.Starting.{Starts, files_chosen, held_at, pinned}
pub use Rattle.ckpt_core.specs.Inside.{Completing.IsMissing, Completing.earlier, Completing.is_before, Completing.number_in, Completing.surplus, Expiring.IsExpiry, Expiring.is_late, Expiring.late_in}
pub use Rattle.ckpt_core.specs.Inside.{PendingRecords.AreKept, PendingRecords.acked, PendingRecords.retracted, SoundRecords.HasRoom, SoundRecords.Joins, SoundRecords.NamesEachOnce}
pub use Rattle.ckpt_core.specs.declared.{image.ImageFault.TheVariants.Damaged, parts.Opened.Opened, parts.Parts.Parts, triggers.Expiry.Expiry}
pub use Rattle.ckpt_ids.proofs.AscendingLemmas.{ascending-swapped, ascending_already, ascending_at, numbers_in_order, set-from_distinct}
pub use Rattle.ckpt_ids.proofs.CountLemmas.{IsIn-from_counted, IsIn-from_times, count_by-all, count_by-append, count_by-cons, count_by-in_order, count_by-map, count_by-none, count_by-same}
pub use Rattle.ckpt_ids.proofs.CountLemmas.{count_by_no, count_by_yes, counted-from_IsIn, times-from_IsIn}
pub use Rattle.ckpt_ids.proofs.OrderedLemmas.{AreDistinct-apart, AreDistinct-append, AreDistinct-filter, AreDistinct-from_order, AreDistinct-left, AreDistinct-right, ComesBefore-at, ComesBefore-from}
pub use Rattle.ckpt_ids.proofs.OrderedLemmas.{IsIn-append_cases, IsIn-append_left, IsIn-append_right, IsIn-at, IsIn-filter, IsIn-flat_map, IsIn-from_filter, IsIn-from_flat_map, IsIn-from_in_order}
pub use Rattle.ckpt_ids.proofs.OrderedLemmas.{IsIn-from_in_order_once, IsIn-from_list_any, IsIn-from_map, IsIn-from_test, IsIn-get_or, IsIn-in_order, IsIn-in_order_once, IsIn-map, IsIn-put}
pub use Rattle.ckpt_ids.proofs.OrderedLemmas.{IsIn-put_cases, IsIn-put_itself, IsInOrder-append, IsInOrder-filter, IsInOrder-in_order_once, IsInOrder-map, fails-from_list_any, filter-all}
pub use Rattle.ckpt_ids.proofs.OrderedLemmas.{filter-filter, filter-none, filter-same, in_tail, list_any-from_IsIn, list_any-none, only_one, same_from_members, test-from_IsIn}
pub use Rattle.ckpt_ids.proofs.{OrderLemmas.subtasks_in_order, OrderLemmas.uses_in_order, PlaceLemmas.find-none, PlaceLemmas.first_differs, PlaceLemmas.get_or_any}
pub use Rattle.ckpt_ids.specs.Ordered.{AreDistinct, ComesBefore, IsIn, IsInOrder, IsStrictOrder, in_order, in_order_once, put, put_once}
pub use Rattle.ckpt_ids.specs.Records.{Holder, Pin, Record, Subtask, Use, acknowledged, count, has_acknowledged, holder_before, is_present, metadata_of, missing, released, same_holder, use_before}
pub use Rattle.ckpt_ids.specs.declared.call.Call.TheVariants.{Ack, Deleted, Dispose, Restore, Savepoint, Show, Take, Tick, Trigger, Undeleted}
pub use Rattle.ckpt_ids.specs.declared.reply.Refusal.TheVariants.{FileGone, InUse, NameTaken, NoSuchRecord, NoSuchSavepoint, NotTaken}
pub use Rattle.ckpt_ids.specs.declared.reply.Reply.{Reply, TheVariants.AckCompleted, TheVariants.Disposed, TheVariants.Shown, TheVariants.Ticked}
pub use Rattle.ckpt_ids.specs.declared.{ack.Acked.Acked, ack.Metadata.Metadata, numbers.CheckpointId.CheckpointId, numbers.Kind.Kind, subtask.SubtaskId.SubtaskId}
pub use Rattle.ckpt_ids.specs.declared.{call.Call.Call, call.Target.Target, reply.Answer.Answer, reply.Answer.TheVariants.Done, reply.Choice.Choice, reply.Refusal.Refusal, reply.TickEnd.TickEnd}
pub use Rattle.ckpt_ids.specs.{Acknowledged.AreInSubtaskOrder, Acknowledged.acknowledges_before, Acknowledged.put_ack, Configuration.Configuration, Configuration.IsWithinLimits}
pub use Rattle.ckpt_ids.specs.{Ascending.IsAscending, Ascending.IsAscendingSet, Ascending.ascending, Ascending.ascending_set, Places.LiesAt}
pub use Rattle.ckpt_ids.specs.{Shapes.IsShape, Shapes.is_subtask, Shapes.subtasks, contracts.numbers.Kind.the_type}
pub use Rattle.ckpt_ids.{proofs.ResultLemmas.on_each_error, proofs.ShapeLemmas.length-subtasks_from, specs.Records.uses, specs.Records.uses_of}
pub use Rattle.ckpt_model.proofs.Answering.Accepted.{IsAcceptedAck, accepted_ack, accepted_cancel, accepted_decline, accepted_restore, accepted_restore_savepoint, accepted_savepoint, accepted_configure, accepted_tick, accepted_trigger}
pub use Rattle.ckpt_model.proofs.Answering.RefusalRows.{first_row-none, row_fails, row_holds, row_last, rows_fail, rows_hold}
pub use Rattle.ckpt_model.proofs.Records.Counts.{IsIn-from_find, count_by-le, count_by_at_most_more, fails-from_find, find_agree, map_itself, map_same}
pub use Rattle.ckpt_model.proofs.Records.Present.{Holds, Holds-from_use, IsHeld, IsHeld-from_present, present-from_IsHeld}
pub use Rattle.ckpt_model.proofs.Records.Released.{IsIn-released, after-from_released, ascending-released, before-from_released, distinct-from_test}
pub use Rattle.ckpt_model.proofs.Records.{Lists.IsSoundOutbox, Lists.in_order-changed, Lists.is_checkpoint-kind, Lists.is_savepoint-kind, Lists.outbox_of, Lists.sound_from, Replacing.same_record}
pub use Rattle.ckpt_model.proofs.Soundness.{Acks.IsAcking, Acks.acking, Acks.with_ack, Acks.with_ack_is, Calls.step_keeps, Completions.completed, Drops.moment_is_sound}
pub use Rattle.ckpt_model.proofs.Soundness.{Opening.opened_is_sound, Triggers.ascending-pins, Triggers.chosen_in, Triggers.held-from_pins, Triggers.new_record, Triggers.outbox_triggered}
pub use Rattle.ckpt_model.proofs.{Answering.StepCases.ack_step, Answering.StepCases.step_accepted, Answering.StepCases.step_refused, Due.none_before, Due.none_early}
pub use Rattle.ckpt_model.proofs.{Histories.Choice.chosen_is_done, Images.Settled.settled_can_hold}
pub use Rattle.ckpt_model.proofs.{Records.Acknowledged.IsAcknowledged, Records.Acknowledged.new_subtask, Records.Pins.pins_same, Records.Pins.pins_stay, Reordering.ExchangeLemmas.has_its_own}
pub use Rattle.ckpt_model.specs.Reads.{IsNextExpiry, NoneIsEarlyFrom, NoneTriggersBefore, has_come, live_of, next_due, pins_in, present_in, sooner, standing, standing_of, standing_without}
pub use Rattle.ckpt_model.specs.Refusals.{first_some, has_repeats, is_done_savepoint, is_foreign, is_number, is_repeat, moment_of, named, no_record, pending_of, refuse_if, savepoints, where_pending}
pub use Rattle.ckpt_model.specs.Steps.{Stepped, at_moment, cancelled, cleared, dropped_by, fails_the_job, failures_with, pending_checkpoints, replaced, rolled_back, show, step, superseded, with_base}
pub use Rattle.ckpt_model.specs.declared.{faults.CoreFault.CoreFault, faults.CoreFault.TheVariants.Memory, faults.CoreFault.TheVariants.Refused, image.Image.Image, image.Saved.Saved}
pub use Rattle.ckpt_model.specs.declared.{mode.Mode.Mode, mode.Mode.TheVariants.Cancelled, mode.Mode.TheVariants.Failed, mode.Mode.TheVariants.Running, reads.Live.Live, reads.Standing.Standing}
pub use Rattle.ckpt_model.specs.{Images.CanHold, Images.HasSoundNumbers, Images.record_in, Images.state_in, Laws.id_of_choice}
pub use Rattle.ckpt_model.specs.{Memory.answer_wants, Memory.may_want_memory, State.Opening, State.State, State.chosen, State.files_of, State.in_outbox, State.is_checkpoint, State.is_done_checkpoint}
pub use Rattle.ckpt_model.specs.{Soundness.AreSoundRecords, Soundness.IsCall, Soundness.IsRecord, Soundness.IsSound, Soundness.id_before, Soundness.is_pending_checkpoint, Steps.with_records}
pub use Rattle.ckpt_model.specs.{State.is_expired, State.is_pending, State.is_subsumed, State.is_surplus, State.kept, State.last_checkpoint, State.record_of, State.released_by, State.unpinned}
pub use Rattle.ckpt_outbox.specs.Queues.{Queues, is_in, is_known, is_taken}
pub use Rattle.ckpt_pending.proofs.SubtaskLemmas.{IsIn-subtasks, IsInOrder-subtasks}
pub use Rattle.ckpt_pending.proofs.{FullLemmas.missing_from_full, PendingLemmas.IsPending-put, PendingLemmas.IsPending-without, PendingLemmas.missing-with_ack, PendingLemmas.without-with_ack}
pub use Rattle.ckpt_pending.specs.Acknowledging.{IsPending, files_from, pending_record, without_ack}
pub use Rattle.ckpt_registry.proofs.{ListLemmas.count_by-filter, PartLemmas.times-from_search}
pub use Rattle.ckpt_registry.specs.Uses.{HasNoUse, IsEachOnce, after_end, files_by, is_ended, is_owned, pins_by, triples, without}
pub use Rattle.ckpt_rules.specs.{FailureCount.FailureCount, Moments.Moments, Trigger.gap, Trigger.limit, declared.hold.Hold.Hold}
pub use Rattle.ckpt_store.proofs.RowLemmas.{copied_from_get, find-partition, find-place, none_place, partitioned, remove-place}
pub use Rattle.ckpt_store.specs.Storing.{AreRising, IsAbove, IsStored, Stored, by_id, completing, has_id, has_savepoint, id_of, lowest, past_retained, retained_of}
pub use Rattle.ckpt_store.specs.declared.store.DisposeFault.{DisposeFault}
pub use Rattle.std.proofs.Common.{Bool, Err, List, MatchBool, None, Ok, Option, Result, Some, [], add-one, ap, arith, cond, eqb, false, get_or, inl, inr, leb, length, ltb, map, max, nat_le, nat_lt}
pub use Rattle.std.proofs.Common.{not, refl, rules, subst, suc, sym, take, true, unwrap_or, vec_len, zero, ℕ, ⊎_elim, ◌&&◌, ◌*◌, ◌++◌, ◌+◌, ◌-◌, ◌<◌, ◌==◌, ◌^◌, ◌||◌, ◌∙◌, ◌∷◌, ◌≡◌, ◌≢◌, ◌≤◌, ◌⊎◌}
pub use Rattle.std.proofs.lemmas.Bool.{and_from, and_left, and_parts, and_right, both_ways, cases_Bool, cases_lt, cond-false, cond-true, cond_both, eq-eqb, eqb-false, eqb-true, false_from_ne_true}
pub use Rattle.std.proofs.lemmas.Bool.{le-leb, le-ltb, leb-false, leb-true, lt-leb, lt-ltb, ltb-false, ltb-true, ne_eqb, not-true, not_from_false, not_from_true, or_cases, or_left, or_parts, or_right}
pub use Rattle.std.proofs.lemmas.Bool.{true_from_ne_false, Decides.nat_tests}
pub use Rattle.std.proofs.lemmas.List.{Elements.filter-append, Filters.length-filter_both, Sums.count_by-le-length, Sums.length-filter}
pub use Rattle.std.proofs.lemmas.List.{Folds.find-append, Folds.list_any-append, Sorted.IsPartitionPoint-from_clause, Sorted.answers_always}
pub use Rattle.std.proofs.lemmas.List.{append-nil, append_assoc, drop_all, length-append, length-map, map-append, nil_from_length, take-append-drop, take_all, take_more, Concat.flat_map-append}
pub use Rattle.std.proofs.lemmas.{Grind.common_steps, Option.none-some, Option.same_Some, Option.slice_get-get_or, Option.slice_get_past}
pub use Rattle.std.proofs.lemmas.{Result.IfOk-weaker, Result.err_from_is_err_and, Result.on_err_weaker, Result.on_ok_weaker, Simd.map-map}
pub use Rattle.std.proofs.{Crossing.crosses, Math.Bool.or-false}
pub use Rattle.std.specs.Prelude.{IfErr, IfNone, IfOk, IfSome, IsSome, IsTrue, OnErr, count_by, find, if◌then◌else◌, is_some, slice_get, ◌↔◌}
pub use Rattle.std.specs.{Borrow.Bor, Int.from_bool, List.filter, List.flat_map, List.list_any, List.remove, List.slice_set, List.Sorted.IsBinarySearchResult, List.Sorted.IsPartitionPoint}
pub use Rattle.std.specs.{Option.option_and_then, Option.option_copied, Option.option_map, Option.option_or, Ordering.nat_cmp}
pub use Rattle.std.specs.{Result.IsErrAnd, Result.MatchResult, Result.OnOk, Result.is_ok, Vec.vec_capacity, VecDeque.Iter.deque_iter_rest, declared.alloc.Global.Global, declared.vec.Vec.Vec}
pub use denote.Enum.Bare.{sameb}
pub use denote.Param.Send.{AllSend, IsSend, recorded_send, sendable, struct_send, view_send}
pub use denote.Struct.{Declared.Declared, Declared.fields, Declared.row, Declared.shape, Struct.Struct}
unfoldable pub use Rattle.ckpt_core.specs.Inside.Parts.{state_of}
unfoldable pub use Rattle.ckpt_model.specs.Steps.{ack, acknowledged_in, after_expiry, cancel, completed_with, decline, decline_pending, dispose, dropping, effect, failed_over, restarted, restore}
unfoldable pub use Rattle.ckpt_model.specs.{Refusals.refusal, State.choice_of, State.drop, State.pins_now, Steps.configure, Steps.start_or_hold, Steps.take_files, Steps.tick, Steps.triggered, Steps.with_config}
