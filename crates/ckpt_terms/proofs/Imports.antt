-- The names that the proofs take from the crates below and from `specs`.
pub use Rattle.ckpt_core.proofs.{Crossings.core_send, Crossings.declared_send}
pub use Rattle.ckpt_ids.proofs.{AscendingLemmas.numbers_in_order, PlaceLemmas.find-none, PlaceLemmas.get_or_any}
pub use Rattle.ckpt_ids.proofs.CountLemmas.{IsIn-from_times, one_if-false, one_if-true, times-append, times-from_IsIn}
pub use Rattle.ckpt_ids.proofs.OrderedLemmas.{AreDistinct-from_order, ComesBefore-at, ComesBefore-from, IsIn-append_cases, IsIn-append_left, IsIn-append_right, IsIn-filter, IsIn-flat_map}
pub use Rattle.ckpt_ids.proofs.OrderedLemmas.{IsIn-from_filter, IsIn-from_in_order, IsIn-from_list_any, IsIn-from_test, IsIn-in_order, IsInOrder-append, IsInOrder-filter}
pub use Rattle.ckpt_ids.proofs.OrderedLemmas.{fails-from_list_any, filter-all, filter-same, list_any-from_IsIn, list_any-none, not_in-from_test, test-from_IsIn}
pub use Rattle.ckpt_ids.specs.{Ascending.IsAscendingSet, Ascending.ascending, Counting.one_if, Counting.times, Ordered.IsIn, Records.Record, Records.acknowledged, Records.is_present}
pub use Rattle.ckpt_ids.specs.{Records.missing, Records.uses, declared.ack.Acked.Acked, declared.call.Call.Call, declared.call.Target.Target, declared.reply.Answer.Answer}
pub use Rattle.ckpt_ids.specs.{declared.reply.Answer.TheVariants.Done, declared.reply.Answer.TheVariants.Refused, declared.reply.Reply.Reply, declared.subtask.SubtaskId.SubtaskId}
pub use Rattle.ckpt_ids.specs.declared.call.Call.TheVariants.{Ack, Cancel, Configure, Count, Decline, Deleted, Dispose, Restore, Savepoint, Show, Take, Tick, Trigger, Undeleted}
pub use Rattle.ckpt_model.proofs.{Answering.StepCases.step_by, Answering.StepCases.step_refused, Histories.Balance.handed, Histories.Balance.unused-from_absent}
pub use Rattle.ckpt_model.proofs.{Histories.Balances.times_none, Histories.Balances.times_once, Histories.Moves.IsTriggered, Histories.Numbers.next_rises, Histories.Pinned.given_is_next}
pub use Rattle.ckpt_model.proofs.{Histories.Pinned.step_came, Histories.StepBalances.step_settled, Images.Alike.go_on_alike, Images.Settled.settled_alike, Images.Settled.settled_can_hold}
pub use Rattle.ckpt_model.proofs.{Records.Counts.IsIn-from_changed, Records.Counts.fails-from_find, Records.Lists.outbox_of, Records.Present.Holds, Records.Present.IsHeld}
pub use Rattle.ckpt_model.proofs.{Records.Present.IsHeld-from_present, Records.Present.present-from_IsHeld, Reordering.Progress.completes, Soundness.Calls.step_keeps}
pub use Rattle.ckpt_model.proofs.{Soundness.Histories.opening_is_sound, Soundness.Opening.InBounds, Soundness.Opening.in_bounds, Stepping.Changes.IsPassedOver, Stepping.Changes.IsTakenBy}
pub use Rattle.ckpt_model.proofs.Stepping.Walk.{step_is}
pub use Rattle.ckpt_model.specs.{Histories.answers, Histories.replay, Images.AreAlike, Images.CanHold, Images.GoesOnAs, Images.record_in, Images.settled, Images.state_in}
pub use Rattle.ckpt_model.specs.{Progress.AreOfDifferent, Progress.TimedPart, Progress.ack_at, Refusals.is_cancelled, Refusals.moment_of, Refusals.pending_of, Refusals.refusal}
pub use Rattle.ckpt_model.specs.{Soundness.IsCall, Soundness.IsSound, declared.image.Image.Image}
pub use Rattle.ckpt_model.specs.Laws.{AreCalls, CanOpen, NoneAgain, Part, ack_of, along, deleted_by, handed_by, is_ack_taken, new_by, registered_as, registered_by}
pub use Rattle.ckpt_model.specs.State.{IsUnused, Opening, State, in_outbox, is_checkpoint, is_expired, is_known, opened}
pub use Rattle.ckpt_model.specs.Steps.{Stepped, at_moment, cancelled, dropped_by, fails_the_job, failures_with, pending_checkpoints, replaced, rolled_back, show, step, superseded}
pub use Rattle.ckpt_model.specs.Steps.{with_records}
pub use Rattle.ckpt_rules.specs.{Trigger.hold, declared.hold.Hold.Hold, declared.hold.Hold.TheVariants.AtOnce, declared.hold.Hold.TheVariants.Go, declared.hold.Hold.TheVariants.Interval}
pub use Rattle.ckpt_rules.specs.declared.hold.Hold.TheVariants.{Pause}
pub use Rattle.ckpt_terms.specs.{Advancing.AdvancesAll, Advancing.IsAbove, Advancing.StaysAbove, NamedProgress.CompletesInTerm, NamedProgress.ack_in, Spent.files_are_spent, Spent.is_spent}
pub use Rattle.ckpt_terms.specs.{Spent.record_is_spent, declared.call.FencedAnswer.FencedAnswer, declared.call.FencedCall.FencedCall, declared.call.FencedCall.TheVariants.Advance}
pub use Rattle.ckpt_terms.specs.{declared.call.FencedCall.TheVariants.Forfeit, declared.call.FencedCall.TheVariants.Make, declared.call.FencedCall.TheVariants.Reserve}
pub use Rattle.ckpt_terms.specs.{declared.call.FencedRefusal.FencedRefusal, declared.call.FencedRefusal.TheVariants.BadCount, declared.call.FencedRefusal.TheVariants.Ended}
pub use Rattle.ckpt_terms.specs.{declared.call.FencedRefusal.TheVariants.NamesUsedUp, declared.call.FencedRefusal.TheVariants.OldTerm, declared.call.FencedRefusal.TheVariants.TermsUsedUp}
pub use Rattle.ckpt_terms.specs.{declared.image.TermsImage.TermsImage, declared.machine.FenceFault.TheVariants.BadName, declared.machine.FenceFault.TheVariants.NameInUse}
pub use Rattle.ckpt_terms.specs.{declared.machine.Machine.Machine, declared.names.Span.Span}
pub use Rattle.ckpt_terms.specs.FencedLaws.{AreFencedCalls, CanFence, CancelledIsSwept, DeletionsAreSafe, GarbageForGood, IsFenced, IsFencedCall, IssuedOnce, IssuesOnce, OneTerm}
pub use Rattle.ckpt_terms.specs.FencedLaws.{SweepIsExact, ZombiesAreFenced, given_in, is_from_task, is_taken_in, term_of}
pub use Rattle.ckpt_terms.specs.Fencing.{Fenced, FencedStepped, advance_fault, advanced, after_call, core_calls, ends_the_term, fence, fenced, fenced_replay, fresh_of, has_ended}
pub use Rattle.ckpt_terms.specs.Fencing.{is_accepted, is_garbage, is_of_task, is_unspent, made, may_be_deleted, not_reserved, passed, raised, restart, unless_fenced, unspent_after}
pub use Rattle.ckpt_terms.specs.Fencing.{without_all}
pub use Rattle.ckpt_terms.specs.Machines.{MakesStep, fence_fault, files_by, has_known_from, is_free, known_files, machine_step, names_in, passes}
pub use Rattle.ckpt_terms.specs.Spans.{AreApart, AreKept, AreRanges, AreRangesBelow, EndsBefore, HasAt, IsCut, in_span, joined, names_of, row, with_first}
pub use Rattle.ckpt_terms.specs.TermsImages.{AreFencedAlike, CanHoldFenced, FencedGoesOnAs, IsFencedCut, fenced_answers, fenced_in, fenced_settled}
pub use Rattle.core.specs.Option.{option_to_list}
pub use Rattle.std.proofs.{Crossing.crosses, Math.Seq.drop-cons, lemmas.Fn.always_returns_same, lemmas.Grind.common_steps, lemmas.List.Sorted.IsPartitionedBy-leb}
pub use Rattle.std.proofs.Common.{Bool, List, None, Some, [], ap, arith, drop, eqb, false, get_or, inl, inr, leb, length, length-append, ltb, map, max, not, of_calls, refl, rules, set}
pub use Rattle.std.proofs.Common.{subst, suc, sym, take, true, vec_capacity, vec_len, zero, ℕ, ⊎_elim, ◌&&◌, ◌++◌, ◌+◌, ◌-◌, ◌<◌, ◌^◌, ◌||◌, ◌∙◌, ◌∷◌, ◌≡◌, ◌≤◌, ◌⊎◌}
pub use Rattle.std.proofs.lemmas.Bool.{and_from, and_parts, and_right, both_ways, cases_Bool, cond-false, cond-true, cond_both, eq-eqb, eqb-false, eqb-true, false≢true, le-leb, le-ltb}
pub use Rattle.std.proofs.lemmas.Bool.{leb-false, leb-true, lt-leb, lt-ltb, ltb-false, ltb-true, ne_eqb, not-false, not-true, not_from_false, not_from_true, or_cases, or_from, or_left}
pub use Rattle.std.proofs.lemmas.Bool.{or_parts, or_right}
pub use Rattle.std.proofs.lemmas.List.{append-nil, append_assoc, drop-set, length-set, set_split, take-append-drop, take-set, take_all, take_more}
pub use Rattle.std.proofs.lemmas.List.Elements.{All-append, All-cons, All-drop, All-from_get_or, All-get_or, All-head, All-nil, All-set, All-tail, All-take}
pub use Rattle.std.proofs.lemmas.List.Folds.{list_all-map, list_any-append, list_any_at, list_any_more, list_any_none}
pub use Rattle.std.specs.{List.All, List.filter, List.find, List.flat_map, List.list_all, List.list_any, List.range_with_len, Prelude.Err, Prelude.IfOk, Prelude.IfSome, Prelude.Ok}
pub use Rattle.std.specs.{Prelude.Option, Prelude.Result, Prelude.cond, Prelude.count_by, Prelude.is_some, Prelude.◌↔◌}
pub use denote.Param.{Send.AllSend, Send.IsSend, Send.sendable, Send.view_send}
pub use denote.Struct.Declared.{fields}
unfoldable pub use Rattle.ckpt_model.specs.Steps.{ack, acknowledged_in, after_expiry, cancel, completed_with, configure, decline, decline_pending, dispose, dropping, effect, failed_over}
unfoldable pub use Rattle.ckpt_model.specs.Steps.{restarted, restore, start_or_hold, take_files, tick, triggered, with_config}
unfoldable pub use Rattle.ckpt_terms.specs.{Fencing.fenced_step, Spans.ranges_of}
