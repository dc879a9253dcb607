-- The names that the proofs take from the crates below and from `specs`.
pub use Rattle.ckpt_core.proofs.{Crossings.core_send, Crossings.declared_send}
pub use Rattle.ckpt_ids.proofs.{OrderedLemmas.list_any-none, PlaceLemmas.find-none}
pub use Rattle.ckpt_ids.specs.{Acknowledged.put_ack, Ascending.ascending, Counting.one_if, Ordered.IsIn, Records.Record, Records.is_present, Records.uses, Shapes.same_subtask}
pub use Rattle.ckpt_ids.specs.{declared.ack.Acked.Acked, declared.call.Call.Call, declared.call.Call.TheVariants.Ack, declared.reply.Answer.Answer}
pub use Rattle.ckpt_ids.specs.{declared.reply.Refusal.TheVariants.FileGone, declared.subtask.SubtaskId.SubtaskId}
pub use Rattle.ckpt_logged.specs.{Chronicles.Chronicle, Chronicles.IsChronicle, Chronicles.calls_of}
pub use Rattle.ckpt_logged.specs.Events.{AreEvents, Event, Fence, IsEvent, IsWell, Named, Plain, calls_in, calls_named, event_step, events_replay, named_from, named_step, reached}
pub use Rattle.ckpt_logged.specs.Promises.{AreAccounted, AreAcknowledged, AreDeletedSafely, AreHandedOut, AreIssuedOnce, HaveOneTerm, IsBalanced, LeaksNone, NeverAgain, OneOfEach, PinsHold}
pub use Rattle.ckpt_logged.specs.Promises.{SavepointsStay, UsesNoMore, acks_in, put_all}
pub use Rattle.ckpt_model.proofs.{Answering.StepCases.show_stays, Histories.Choice.choice_stands, Histories.Choice.found, Histories.Moves.IsMoved, Histories.Moves.IsTriggered}
pub use Rattle.ckpt_model.proofs.{Histories.Moves.moved_from, Histories.Numbers.next_rises, Histories.Numbers.numbers_from, Histories.Pinned.pinned_from, Histories.Replays.calls-split}
pub use Rattle.ckpt_model.proofs.{Histories.Replays.replay-append, Histories.Savepoints.savepoint_stays_along, Histories.Takings.taken_from, Histories.Takings.taken_id}
pub use Rattle.ckpt_model.proofs.{Keeping.Latest.takes_newest, Records.Once.times_of-in_order, Soundness.Calls.step_keeps, Soundness.Histories.replay_keeps, Stepping.Changes.IsPassedOver}
pub use Rattle.ckpt_model.proofs.{Stepping.Changes.IsTakenBy, Stepping.Changes.passed_moves, Stepping.Walk.step_is}
pub use Rattle.ckpt_model.proofs.Histories.Balance.{accounted_from, balance_from, flow_from, handed_before, handed_from, in_one_place}
pub use Rattle.ckpt_model.specs.{Histories.replay, Refusals.refusal, Soundness.IsSound, State.IsUnused, State.State, State.in_outbox, State.record_of, Steps.Stepped, Steps.step}
pub use Rattle.ckpt_model.specs.Laws.{AreCalls, NoneAgain, accepted_by, ack_of, along, deleted_by, handed_by, registered_by}
pub use Rattle.ckpt_terms.proofs.{Fences.fenced_calls-split, Fences.step_fenced, MachineLemmas.named_fenced, Stepping.fenced_step_by}
pub use Rattle.ckpt_terms.specs.{FencedLaws.AreFencedCalls, FencedLaws.IsFenced, FencedLaws.IsFencedCall, declared.call.FencedAnswer.FencedAnswer, declared.call.FencedCall.FencedCall}
pub use Rattle.ckpt_terms.specs.{declared.call.FencedCall.TheVariants.Advance, declared.call.FencedCall.TheVariants.Forfeit, declared.call.FencedCall.TheVariants.Make}
pub use Rattle.ckpt_terms.specs.{declared.call.FencedCall.TheVariants.Reserve, declared.machine.FenceFault.FenceFault, declared.machine.Machine.Machine}
pub use Rattle.ckpt_terms.specs.Fencing.{Fenced, FencedStepped, core_calls, fenced_replay, fenced_step, passed}
pub use Rattle.ckpt_terms.specs.Machines.{Issued, core_in, fence_fault, first_names, machine_of, machine_step, names_in}
pub use Rattle.std.proofs.{Crossing.crosses, lemmas.Bool.eq-eqb, lemmas.Bool.ne_eqb, lemmas.Grind.common_steps}
pub use Rattle.std.proofs.Common.{List, [], ap, arith, eqb, false, inl, inr, refl, rules, subst, sym, true, ℕ, ⊎_elim, ◌++◌, ◌+◌, ◌<◌, ◌∙◌, ◌∷◌, ◌≡◌, ◌≤◌, ◌⊎◌}
pub use Rattle.std.specs.{List.list_any, Prelude.Err, Prelude.IfOk, Prelude.None, Prelude.Ok, Prelude.OnErr, Prelude.OnOk, Prelude.Option, Prelude.Result, Prelude.Some, Prelude.is_ok}
pub use Rattle.std.specs.{Prelude.◌↔◌, declared.alloc.AllocError.AllocError}
pub use denote.Param.{Send.AllSend, Send.IsSend, Send.sendable, Send.view_send}
pub use denote.Struct.Declared.{fields}
