-- The names that the proofs take from the crates below and from `specs`.
pub use Rattle.ckpt_durable.specs.Groups.{AreTurns, Committed, Crashed, Imaged, Life, Looked, Made, Receipt, Turn, World, goes_on, happens, lives, started, world}
pub use Rattle.ckpt_ids.proofs.{AscendingLemmas.ascending_already, LimitLemmas.limits_hold, LimitLemmas.shape_holds, OrderedLemmas.filter-all}
pub use Rattle.ckpt_ids.specs.{Ascending.IsAscending, Ascending.ascending, Configuration.Configuration, Configuration.IsWithinLimits, Configuration.configured}
pub use Rattle.ckpt_ids.specs.{Configuration.is_within_limits, Records.Record, Records.acknowledged, Records.missing, Shapes.IsShape, Shapes.is_shape, declared.call.Call.Call}
pub use Rattle.ckpt_ids.specs.{declared.call.Target.Target, declared.reply.Answer.TheVariants.Done, declared.reply.Answer.TheVariants.Refused, declared.reply.Choice.Choice}
pub use Rattle.ckpt_ids.specs.{declared.reply.Refusal.Refusal, declared.subtask.SubtaskId.SubtaskId}
pub use Rattle.ckpt_ids.specs.declared.call.Call.TheVariants.{Ack, Cancel, Configure, Count, Decline, Deleted, Dispose, Restore, Savepoint, Show, Take, Tick, Trigger, Undeleted}
pub use Rattle.ckpt_ids.specs.declared.limits.TheConstants.{LEAST_INTERVAL, LONGEST_DURATION, MOST_AT_ONCE, MOST_RETAINED, MOST_SUBTASKS, MOST_TOLERABLE, MOST_VERTICES}
pub use Rattle.ckpt_image.specs.Images.{image_read}
pub use Rattle.ckpt_lines.specs.{CallTexts.config_text, CallTexts.job_text, CallTexts.parallelisms, CallTexts.start_text, Reading.is_new_shape, Reading.reading}
pub use Rattle.ckpt_lines.specs.declared.limits.TheConstants.{LONGEST_LINE}
pub use Rattle.ckpt_logged.proofs.Crossings.{logged_send}
pub use Rattle.ckpt_logged.specs.{Chronicles.Chronicle, Events.Event, Events.IsEvent, Events.IsWell, Events.Named, Events.Plain, Events.event_step, Events.named_from, Promises.Promises}
pub use Rattle.ckpt_model.proofs.{Answering.StepCases.show_stays, Answering.StepCases.step_by, Soundness.Histories.opening_is_sound, Soundness.Opening.in_bounds}
pub use Rattle.ckpt_model.specs.{Images.CanHold, Images.settled, Images.state_in, Laws.CanOpen, Opening.open_fault, Refusals.moment_of, Refusals.pending_of, Soundness.IsCall}
pub use Rattle.ckpt_model.specs.{Soundness.IsSound, declared.faults.OpenFault.OpenFault, declared.faults.OpenFault.TheVariants.BadFirst}
pub use Rattle.ckpt_model.specs.State.{Opening, State, choice_of, is_checkpoint, is_expired, opened, record_of, released_by}
pub use Rattle.ckpt_model.specs.Steps.{Stepped, at_moment, dropped_by, failed_over, fails_the_job, failures_with, pending_checkpoints, replaced, restarted, rolled_back, show, unless_refused}
pub use Rattle.ckpt_model.specs.Steps.{with_base, with_records}
pub use Rattle.ckpt_names_image.proofs.RoundTrips.{plain_text_back}
pub use Rattle.ckpt_names_image.specs.{Named.Fenced, Named.Saved, Named.named_in, Named.saved_read}
pub use Rattle.ckpt_rules.specs.{Trigger.hold, declared.hold.Hold.Hold, declared.hold.Hold.TheVariants.AtOnce, declared.hold.Hold.TheVariants.Go, declared.hold.Hold.TheVariants.Interval}
pub use Rattle.ckpt_rules.specs.declared.hold.Hold.TheVariants.{Pause}
pub use Rattle.ckpt_term_lines.proofs.FirstWords.{extends_line}
pub use Rattle.ckpt_terms.proofs.{Fences.opening_fenced, MachineLemmas.passes_on, Stepping.fenced_step_by, TermLemmas.layer}
pub use Rattle.ckpt_terms.specs.{Spans.ranges_of, TermsImages.CanOpenFenced, TermsImages.fenced_in, TermsImages.fenced_settled, TermsOpening.terms_fault, declared.call.FencedCall.FencedCall}
pub use Rattle.ckpt_terms.specs.{declared.call.FencedCall.TheVariants.Advance, declared.call.FencedCall.TheVariants.Forfeit, declared.call.FencedCall.TheVariants.Make}
pub use Rattle.ckpt_terms.specs.{declared.call.FencedCall.TheVariants.Reserve, declared.call.TheConstants.NAMES_END, declared.image.TermsImage.TermsImage}
pub use Rattle.ckpt_terms.specs.{declared.machine.FenceFault.FenceFault, declared.machine.Machine.Machine, declared.names.Span.Span}
pub use Rattle.ckpt_terms.specs.Fencing.{FencedStepped, after_call, fenced, fenced_step, is_accepted, is_garbage, made, restart}
pub use Rattle.ckpt_terms.specs.Machines.{Issued, MakesStep, core_in, fence_fault, is_free, issued_by, machine_of, machine_step, names_in}
pub use Rattle.core.proofs.{alloc.Calls.Al, alloc.Calls.Goes-blank, alloc.Calls.handle_tells, alloc.Shapes.after, atomic.Steps.fm, cell.Inside.Good, cell.Inside.one, option.Made.Some-of}
pub use Rattle.core.proofs.option.Made.{none_of}
pub use Rattle.core.specs.{Ptr.points_to, Str.IsUtf8, declared.alloc.Allocator.Ghosts}
pub use Rattle.relkvanu.specs.{Asking.asked_by, Asking.bad_line, Buffers.files_in, Calls.restore_of, Calls.shape_of, Calls.target_of}
pub use Rattle.relkvanu.specs.{Images.OpensAgain, Images.Tells, Images.fenced_from, Images.image_by, Images.image_with, Kept.IsHeld, Kept.heap, Kept.kept, Making.making, Opening.opening_of}
pub use Rattle.relkvanu.specs.{contracts.handle.Handle.the_row, contracts.raw_box.RawBox.into_box.clauses, contracts.raw_box.RawBox.into_box.ended}
pub use Rattle.relkvanu.specs.{declared.answer.Answer.Answer, declared.asked.Asked.Asked, declared.group.Group.Group, declared.handle.Handle.Handle, declared.writing.CallFields.CallFields}
pub use Rattle.relkvanu.specs.Fenced.{IsHandled, IsTaken, call_step, count_of, fence_told, fenced_told, machine_in, term_step}
pub use Rattle.relkvanu.specs.GroupPrograms.{AreAsked, Asks, AsksByLine, Does, Ends, Has, Images, IsLeftBy, Looks, LooksAtCall, Notes, Operation, Performed, Performs, Program, Syncs}
pub use Rattle.relkvanu.specs.GroupPrograms.{TellsItsOwn, TellsWhatIsSynced, noted, one_noted, program, receipts}
pub use Rattle.relkvanu.specs.Groups.{IsEventOf, IsRoom, all_told, asked_event, bad_receipt, fresh, group_with, held_answer, held_with, is_told, one_more, receipt_of, tells, told_by}
pub use Rattle.relkvanu.specs.Groups.{why_full}
pub use Rattle.relkvanu.specs.Lines.{asked_step, core_step, line_call_step, named_step, plain_step, said_step}
pub use Rattle.relkvanu.specs.Saying.{CallHasLists, HasLists, call_fields, call_first, call_has_no_fields, call_second, fields_of, first_of, has_no_fields, second_of, settings_of}
pub use Rattle.relkvanu.specs.Saying.{target_number}
pub use Rattle.relkvanu.specs.Told.{answer_told, bad_argument, bad_shape, done, no_memory, restore_told, too_short, too_short_for}
pub use Rattle.relkvanu.specs.WorkedGroup.{acks, begin, buffer, completed, fresh_choice, last, notes, operations, ticks, triggered}
pub use Rattle.relkvanu.specs.Writing.{ReadsBack, SaysBack, asked_text, bad_kind, configuration_in, configuring, kinds, line_of_asked, newline, restore_in, with_term}
pub use Rattle.std.proofs.{Crossing.frees, GlobalToken.dealloc_token-Testable, lemmas.Bool.Decides.eqb_tells}
pub use Rattle.std.proofs.{lemmas.List.Sums.AllPass-from_list_all, lemmas.Result.IfOk-weaker, lemmas.Str.IsUtf8-string_bytes, raw_atomic.Walks.leaves, raw_atomic.Walks.proved_at}
pub use Rattle.std.proofs.Common.{Bool, List, Ok, [], ap, append-nil, append_assoc, arith, drop, eqb, false, get_or, inl, inr, leb, length, length-append, lit<, ltb, map, max, not, refl}
pub use Rattle.std.proofs.Common.{rules, set, subst, suc, sum, sym, take, true, zero, ℕ, ◌&&◌, ◌++◌, ◌+◌, ◌-◌, ◌<◌, ◌||◌, ◌∙◌, ◌∷◌, ◌≡◌, ◌≢◌, ◌≤◌, ◌⊎◌}
pub use Rattle.std.proofs.lemmas.Bool.{and_parts, cond-false, cond_both, eq-eqb, eqb-true, leb-true, ltb-true, true≢false}
pub use Rattle.std.proofs.lemmas.List.{length-take, take_more_set}
pub use Rattle.std.specs.{Int.from_bool, List.filter, List.list_all, List.list_any, Option.option_map, Vec.vec_capacity, Vec.vec_len, contracts.impls.GlobalAllocator.TheImpl.ghosts}
pub use Rattle.std.specs.Prelude.{Err, IfSome, None, Option, Result, Some, count_by, if◌then◌else◌, is_none, min, nat_le, slice_get, string_bytes, unwrap_or, ⊤, ◌==◌}
pub use Rattle.std_alloc.proofs.{BoxSteps.Steps.box_in, BoxSteps.Steps.box_out, ResultValues.and_tt, boxed.Box.from_raw.Met.met}
pub use Rattle.std_alloc.specs.Box.Ownership.{box_owns}
pub use base.{Fml.Fml, Fml.flft, Fml.fsep, Fml.ftrue, Fraction.full_share, Logic.SProp, Logic.emp, Logic.ent, Logic.fst∗, Logic.guard, Logic.guard_i, Logic.id⊢, Logic.never, Logic.snd∗}
pub use base.{Logic.via, Shift.Keyless}
pub use contract.{BorrowLft.◌⊑◌, Monad.fact, Monad.fact_i, Monad.fact_use, Running.tables}
pub use denote.{Builtin.RawPtr, Exit.no, Exit.yes, Memory.lone, Param.bounded, Param.layout, Param.param, RattleType.RattleType, RattleType.Valss, RattleType.owns, RawPtr.Ptr}
pub use denote.{RawPtr.Testable, RawPtr.block_ptr, RawPtr.in_a_block, RawPtr.null_ptr, RawPtr.ptr_val, RawPtr.tests_null, Signature.plain, Signature.type_at, Signature.types_at, Steps.heard}
pub use denote.{Steps.nothing, Steps.only}
pub use denote.Param.{Laws.Laws, Laws.param_laws, Send.IsSend, Send.part_keyless}
pub use denote.Struct.{Owning.shape, Struct.within, Tuple.Tuple}
pub use denote.Triple.{Call.calls_at, Call.calls_at_last, Clauses.Lasts, Clauses.lasts, Spec.triple_of, Walked.Goes-dropped, Walked.Stays, Walked.stay_dropped, Walked.walk_of}
pub use lib.Dec.{T}
pub use mir.{MapTy.inst_fn, Syntax.a_type, Syntax.dcons, Syntax.dnil, Syntax.impl, Syntax.tnil, Val.Val, Val.WT, Val.has_ty, Val.of_list, Val.vcons, Val.vnil, Val.vptr, Val.vstruct}
pub use prog.Wp.{WpFn}
pub use seplogic.Ra.Ura.{Ura}
pub use types.{Logic.Logic, Logic.sem, Match.live, Part.agg, Part.sub, Part.whole}
pub use types.ByLocal.{alloc_all, env, free_all, get, get_in, lands_as, lands_last, look_at, pass_all, sets, sets_last}
pub use types.Kit.{ !, Goal, Item, Seq, Step, at_ret, await, by, feq_i, feq_l, fjoin, fpack, fpick, fsplit, join, keep, later, learn, move, pick, qed, raw, rewrite, some, split, split3}
pub use types.Kit.{suffices, use0, use1, ‵, ◌$◌, ◌∵◌, ◌⊛◌}
pub use types.Run.{and_then, bin, blocks, branches, enter, exec, first, fld, lit, no_more, of_opd, returns, stop}
unfoldable pub use Rattle.ckpt_model.specs.Refusals.{refusal}
unfoldable pub use Rattle.ckpt_model.specs.Steps.{ack, acknowledged_in, after_expiry, cancel, completed_with, configure, decline, decline_pending, dispose, dropping, effect, restore}
unfoldable pub use Rattle.ckpt_model.specs.Steps.{start_or_hold, step, take_files, tick}
unfoldable pub use Rattle.relkvanu.specs.{Asking.said, Images.CanBeOpened, Images.opened_with, Lines.call_made, Making.to_make, Writing.call_given, Writing.given, Writing.opening_text}
