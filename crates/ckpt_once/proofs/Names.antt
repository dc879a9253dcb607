-- The names that the proofs take from the crates below and from `specs`.
pub use Rattle.ckpt_align.proofs.{Carrying.elements-barriers, Carrying.global_cut, Carrying.is_number-Some, Carrying.processed_before, Cutting.reads_cut-element, Fitting.element_reads-other}
pub use Rattle.ckpt_align.proofs.{GoingOn.cuts_rise, InputLemmas.get-replicate, InputLemmas.length-replicate, ItemLemmas.elements-append}
pub use Rattle.ckpt_align.specs.{Alignment.Alignment, Alignment.opened, Laws.Channel, Laws.HasCut, Laws.IsConsistent, Laws.IsInOrder, Laws.Network, Steps.element, declared.input.Input.Input}
pub use Rattle.ckpt_align.specs.declared.input.Input.TheVariants.{Open}
pub use Rattle.ckpt_align.specs.Histories.{Action, Barrier, Element, End, Ends, GivesUp, Item, Reads, Sends, after, answer_to, barriers, before_cut, cut_as, cut_by, elements, has_cut}
pub use Rattle.ckpt_align.specs.Histories.{has_ended, is_number, is_taken, processed, replay, sent, sent_by, taken, taken_by}
pub use Rattle.ckpt_cuts.proofs.Consistency.{has_cut-from_done}
pub use Rattle.ckpt_cuts.specs.Laws.{AcknowledgesCuts}
pub use Rattle.ckpt_ids.proofs.{CountLemmas.IsIn-from_counted, OrderLemmas.same_subtask-Decides, OrderedLemmas.list_any-from_IsIn, PlaceLemmas.some_at}
pub use Rattle.ckpt_ids.specs.{Ordered.IsIn, Records.Record, Shapes.same_subtask, declared.call.Call.Call, declared.call.Call.TheVariants.Ack, declared.call.Call.TheVariants.Cancel}
pub use Rattle.ckpt_ids.specs.{declared.call.Call.TheVariants.Configure, declared.call.Call.TheVariants.Restore, declared.subtask.SubtaskId.SubtaskId}
pub use Rattle.ckpt_model.proofs.{Histories.Choice.chosen_is_done, Histories.Replays.calls-split, Histories.Replays.replay-append, Keeping.Completed.leaves_done}
pub use Rattle.ckpt_model.proofs.{Keeping.Configured.configures_now, Keeping.Kept.keeps, Keeping.Latest.takes_newest, Soundness.Calls.step_keeps, Soundness.Histories.replay_is_sound}
pub use Rattle.ckpt_model.specs.{Interleavings.is_completing, Keeping.TakesNewest, Keeping.has_done_checkpoint, Keeping.is_accepted, Keeping.may_drop, Keeping.newer_than, Laws.AreCalls}
pub use Rattle.ckpt_model.specs.{Laws.CanOpen, Laws.Part, Laws.ack_of, Laws.id_of_choice, Soundness.IsCall, Soundness.IsSound, State.Opening, State.State, State.choice_of}
pub use Rattle.ckpt_model.specs.{State.is_checkpoint, State.is_done_checkpoint, Steps.Stepped}
pub use Rattle.ckpt_once.specs.{Choices.Agree, Choices.GoTogether, Choices.HasNoChoice, Choices.IsPlanned, Choices.OneOutput, Choices.Plan, Newest.ChoiceIsNoOlder, Newest.NoneGoesBack}
pub use Rattle.ckpt_once.specs.{Newest.goes_back, PlainHistories.RunIsHistory, PlainHistories.history_of, PlainHistories.turn_of, Snapshots.SnapshotOfInput, Snapshots.state_over}
pub use Rattle.ckpt_once.specs.Jobs.{AreAttempts, Attempt, By, GivesInOrder, HaveCut, History, IsHistory, IsJob, IsMoveOf, IsPrefix, IsQuiet, IsRun, IsTurnOf, Job, Run, States, as_step}
pub use Rattle.ckpt_once.specs.Jobs.{before_cuts, has_stopped, network, of, put_on, restored, run_of, run_of_attempts, starts, states_after, states_in, taken_off}
pub use Rattle.ckpt_once.specs.Laws.{FailuresInvisible, PublishedIsPrefix, PublishedOnce, RecordIsOfRun, RunsJoin, WithoutBarriers}
pub use Rattle.ckpt_once.specs.Programs.{Drawn, Draws, Emitted, Ended, GivenUp, Move, Offered, Program, Takes, Turn, actions, acts, aligned, emitted, emitted_by, from_input, move_in}
pub use Rattle.ckpt_once.specs.Programs.{moves_in, on_output, sendings, state, told, with_one}
pub use Rattle.ckpt_once.specs.Restarts.{AreRestarts, ChosenAreLast, ExactlyOnce, RestartsInvisible, WasChosen, WasCompleted, WasDone}
pub use Rattle.ckpt_once.specs.Sinks.{SealedByThen, Sink, Transaction, above, contents, published, published_before, published_in, sealed, sealed_at, still_open, up_to, written}
pub use Rattle.std.proofs.{Math.Path.fun_ext, lemmas.Bool.Decides.Decides-eqb, lemmas.Bool.cases_Bool, lemmas.Bool.or_parts, lemmas.Grind.common_steps, lemmas.List.append-nil}
pub use Rattle.std.proofs.{lemmas.List.append_assoc, lemmas.List.append_cancel_left}
pub use Rattle.std.proofs.Common.{Bool, List, None, Option, Some, [], ap, arith, false, find, if◌then◌else◌, inl, inr, nat_le, nat_lt, refl, replicate, slice_get, subst, sym, true, ℕ, ◌&&◌}
pub use Rattle.std.proofs.Common.{◌++◌, ◌<◌, ◌||◌, ◌∙◌, ◌∷◌, ◌≡◌, ◌≤◌, ◌⊎◌}
pub use Rattle.std.specs.Prelude.{◌==◌}
unfoldable pub use Rattle.ckpt_align.specs.Steps.{step}
