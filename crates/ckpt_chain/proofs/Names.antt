-- The names that the proofs take from the crates below and from `specs`.
pub use Rattle.ckpt_align.proofs.{Carrying.global_cut, Carrying.is_number-Some, Cutting.give_up_cuts_not, Cutting.reads_cut-element, Fitting.element_reads-other}
pub use Rattle.ckpt_align.specs.{Steps.Stepped, Steps.if_open, declared.input.Input.Input, declared.input.Input.TheVariants.Held, declared.input.Input.TheVariants.Open}
pub use Rattle.ckpt_align.specs.Alignment.{Alignment, all_released, held_for, is_aligning, is_late, is_open, opened, with_input}
pub use Rattle.ckpt_align.specs.Histories.{Action, Barrier, Element, End, Ends, GivesUp, Item, Reads, Sends, after, answer_to, barriers, cut_as, cut_by, has_cut, is_number, is_taken, sent}
pub use Rattle.ckpt_align.specs.Histories.{sent_by, taken, taken_by}
pub use Rattle.ckpt_align.specs.Laws.{Channel, HasCut, IsConnected, IsInOrder, Network, Task, sent_on, taken_from}
pub use Rattle.ckpt_chain.specs.{Durably.AreOf, Durably.DurableIsGroup, Durably.turn_of, Looped.AcceptsTold, Looped.AreToldLoops, Looped.ToldLoopsAreSeamless, Looped.ToldSinkGivesOnce}
pub use Rattle.ckpt_chain.specs.{SinkFaults.HasSunkUntilFault, SinkFaults.SinkFaultsCount, TermLoops.AreTermLoops, TermLoops.HasToldOf, TermLoops.TellsInTerm, TermLoops.TermLoopsAreSeamless}
pub use Rattle.ckpt_chain.specs.{Unaligned.AcknowledgesParts, Unaligned.AreToldResumes, Unaligned.ToldResumesAreSeamless, WorkedEngine.acked, WorkedEngine.completed, WorkedEngine.history}
pub use Rattle.ckpt_chain.specs.{WorkedProgress.advance, WorkedProgress.holds, WorkedProgress.lacking, WorkedProgress.of_adder, WorkedProgress.of_source, WorkedProgress.parts}
pub use Rattle.ckpt_chain.specs.{WorkedProgress.waits, WorkedSink.attempt, WorkedSink.cutting, WorkedSink.did, WorkedSink.ending, WorkedSink.failing, WorkedSink.starting}
pub use Rattle.ckpt_chain.specs.{WorkedStorage.adder_saves, WorkedStorage.before, WorkedStorage.found, WorkedStorage.is_found, WorkedStorage.nothing, WorkedStorage.place}
pub use Rattle.ckpt_chain.specs.{WorkedStorage.reads, WorkedTriggers.first, WorkedTriggers.numbers, WorkedTriggers.second}
pub use Rattle.ckpt_chain.specs.Chosen.{AreChosenLoops, ChosenLoopsAreLast, ChosenSinkGivesOnce, LoopsChosen}
pub use Rattle.ckpt_chain.specs.Named.{AreNamedRestarts, NamedExactlyOnce, NamedIsConsistent, NamedRestartsInvisible, WasNamedDone}
pub use Rattle.ckpt_chain.specs.Since.{AcknowledgesCuts, AreRestarts, DoneIsConsistent, ExactlyOnce, RestartsInvisible, WasDone, acknowledgements_of}
pub use Rattle.ckpt_chain.specs.Storages.{Act, AreAllowed, AreStored, FilesStay, HasWritten, IsAllowed, IsFreeFor, IsThere, IsWritten, MayBeRemoved, Removed, Site, Storage, Turned, Wrote}
pub use Rattle.ckpt_chain.specs.Storages.{acted, begun, goes_through, put, registered_in, site}
pub use Rattle.ckpt_chain.specs.Stored.{AreReadBack, NothingIsLost, Place, SavesSnapshots, StoredAttempt, WasReadBack, attempts_in, files_of, now_at, read_from}
pub use Rattle.ckpt_chain.specs.Terms.{AcknowledgesInTerm, AreTermRestarts, IsAskedInTerm, TermsAreSeamless}
pub use Rattle.ckpt_chain.specs.Told.{AreToldRestarts, Completes, LedgerPublishesOnce, NeverGoesBack, NobodyGoesBack, Restores, ToldExactlyOnce, ToldIsSeamless, WasRestored, WasToldOf}
pub use Rattle.ckpt_chain.specs.Told.{answered, asks_way_back, call_of, is_way_back, its_answer}
pub use Rattle.ckpt_chain.specs.Triggered.{AreTriggered, CutsAreGiven, HasNoEarlier, OrdersAreOf, Tried, asked, numbers_in, saved_by}
pub use Rattle.ckpt_chain.specs.WorkedExamples.{adder_acks, begin, calls_late, is_synced, is_told, log, now, reserves, restores, sink, source_acks, ticks, told, turns}
pub use Rattle.ckpt_cuts.specs.Laws.{AreChannelsOf}
pub use Rattle.ckpt_durable.proofs.{Alike.AreMachinesAlike, Alike.alike_named, Alike.same_core, Alike.same_records, Alike.step_alike, GroupWorlds.first_or, GroupWorlds.group_reads_are_safe}
pub use Rattle.ckpt_durable.proofs.{GroupWorlds.groups_durable, GroupWorlds.steps_as, Standing.Stand, Standing.stand_at}
pub use Rattle.ckpt_durable.specs.Crashes.{IsWithin}
pub use Rattle.ckpt_durable.specs.Groups.{AreTurns, Committed, Crashed, Imaged, IsDurable, Looked, Made, Receipt, Turn, World, goes_on, happens, started, synced, world}
pub use Rattle.ckpt_ids.proofs.OrderLemmas.{same_subtask-Decides}
pub use Rattle.ckpt_ids.proofs.OrderedLemmas.{IsIn-append_cases, IsIn-append_left, IsIn-append_right, IsIn-from_map, IsIn-put_cases, filter-same}
pub use Rattle.ckpt_ids.specs.{Acknowledged.acknowledges_before, Acknowledged.put_ack, Ascending.ascending, Ordered.IsIn, Records.IsFull, Records.Record, Records.is_present, Records.uses}
pub use Rattle.ckpt_ids.specs.{Shapes.same_subtask, Shapes.subtasks, declared.ack.Acked.Acked, declared.call.Call.Call, declared.call.Call.TheVariants.Ack}
pub use Rattle.ckpt_ids.specs.{declared.call.Call.TheVariants.Cancel, declared.call.Call.TheVariants.Restore, declared.call.Call.TheVariants.Tick, declared.reply.Answer.Answer}
pub use Rattle.ckpt_ids.specs.{declared.reply.Answer.TheVariants.Done, declared.reply.Choice.Choice, declared.subtask.SubtaskId.SubtaskId}
pub use Rattle.ckpt_ledger.specs.{Restarts.AreTold, Restarts.AttemptTold, Restarts.attempts}
pub use Rattle.ckpt_logged.proofs.{Asked.events-push, Asked.events-split, Asked.reaches, Asked.replay-append, Asked.replay_well, Since.acknowledged, Since.adds_none, Since.none_yet}
pub use Rattle.ckpt_logged.specs.{Promises.acks_in, Promises.put_all}
pub use Rattle.ckpt_logged.specs.Events.{AreEvents, Event, Fence, IsEvent, IsWell, Named, Plain, calls_in, event_step, events_replay, named_as, reached}
pub use Rattle.ckpt_model.proofs.{Histories.Balance.absent-from_unused, Histories.Choice.chosen_is_done, Histories.Numbers.next_rises, Histories.Pinned.given_is_next}
pub use Rattle.ckpt_model.proofs.{Images.Alike.go_on_alike, Records.Counts.map_same, Records.Present.present-from_IsHeld, Soundness.Calls.step_keeps, Soundness.Histories.opening_is_sound}
pub use Rattle.ckpt_model.proofs.Soundness.Histories.{replay_is_sound}
pub use Rattle.ckpt_model.specs.{Histories.replay, Images.AreAlike, Interleavings.is_completing, Keeping.is_accepted, Progress.AreAllMissing, Progress.HasFiles, Progress.IsLacking}
pub use Rattle.ckpt_model.specs.{Progress.TimedPart, Refusals.pending_of, Soundness.IsSound}
pub use Rattle.ckpt_model.specs.Laws.{AreCalls, CanOpen, Part, ShareNone, accepted_by, ack_of, along, given_as, given_by, id_of_choice, is_ack_taken, registered_as, registered_by}
pub use Rattle.ckpt_model.specs.State.{IsUnused, Opening, State, choice_of, is_checkpoint, is_known, record_of}
pub use Rattle.ckpt_once.proofs.{ActionLemmas.taken-append, Choosing.one_output, Chosen.chosen_are_last, Joining.failures_invisible, Joining.is_restored, Newer.choice_is_no_older}
pub use Rattle.ckpt_once.proofs.{Newer.found_in, Publishing.published_is_prefix, Publishing.published_once, Restarting.have_cut, TurnLemmas.taken_sendings}
pub use Rattle.ckpt_once.specs.{Choices.Agree, Choices.HasNoChoice, Choices.IsPlanned, Choices.Plan, Newest.NoneGoesBack, Newest.goes_back, Restarts.AreChosen, Restarts.IsSeamless}
pub use Rattle.ckpt_once.specs.{Restarts.WasCompleted, Sinks.AreLast, Sinks.Sink, Sinks.published_before, Sinks.written, WorkedExamples.adder, WorkedExamples.is_job, WorkedExamples.job}
pub use Rattle.ckpt_once.specs.{WorkedExamples.line, WorkedExamples.plan, WorkedExamples.source}
pub use Rattle.ckpt_once.specs.Jobs.{AreAttempts, Attempt, By, GivesInOrder, HaveCut, History, IsFed, IsHistory, IsJob, IsRun, IsTurnOf, Job, Run, States, before_cuts, has_stopped, network}
pub use Rattle.ckpt_once.specs.Jobs.{of, restored, run_of, run_of_attempts, snapshots, starts}
pub use Rattle.ckpt_once.specs.Programs.{Drawn, Draws, Emitted, Ended, GivenUp, Offered, Program, Takes, actions, acts, aligned, emitted_by, move_in, moves_in, sendings, state}
pub use Rattle.ckpt_other_cuts.proofs.{Resumed.resumes_invisible, WorkedResuming.have_parts, WorkedResuming.was_recorded}
pub use Rattle.ckpt_other_cuts.specs.{Restarted.Doings, Resumed.AreResumes, WorkedResumes.is_run_from}
pub use Rattle.ckpt_task.proofs.{Doing.not_run_as, Doing.run_as, Doing.runs_more, Doing.takes_last, Failing.Counted, Failing.begun_restores, Failing.faults_count, Failing.finishes}
pub use Rattle.ckpt_task.proofs.{Failing.going, Failing.skips, LoopLaws.loops_make_history, LoopLaws.loops_restore, Looping.by, WorkedLooping.again_looping, WorkedLooping.are_last}
pub use Rattle.ckpt_task.proofs.{WorkedLooping.can_open, Working.at_as}
pub use Rattle.ckpt_task.specs.{Deeds.Acknowledges, Deeds.IsPart, Deeds.came_in, Deeds.taken_in, Deeds.told_in, Engines.IsAtFront, Engines.IsWorking, Engines.Snapped, Engines.engine}
pub use Rattle.ckpt_task.specs.{Engines.snapped, Faults.AreFailing, Faults.CountAsLoops, Faults.CountsAs, Faults.HasFailed, Faults.HasLoopedOrFailed, Laws.AcknowledgesSnapped}
pub use Rattle.ckpt_task.specs.{Laws.AreEngines, Laws.WasCompletedBy, Restores.AreSaved, Restores.IsRestored, Saving.Saved, Saving.state_of, Saving.under, SinkTurns.SinkAt, Turns.At}
pub use Rattle.ckpt_task.specs.{WorkedLoops.again, WorkedLoops.at, WorkedLoops.calls, WorkedLoops.cut_at, WorkedLoops.failed, WorkedLoops.opening, WorkedLoops.with_100}
pub use Rattle.ckpt_task.specs.{declared.deed.Deed.Deed, declared.deed.Deed.TheVariants.Acknowledged, declared.deed.Deed.TheVariants.Came, declared.deed.Deed.TheVariants.SentBarrier}
pub use Rattle.ckpt_task.specs.Loops.{AreLooping, AreLoopsAttempts, AreRuns, HasLooped, IsHistoryOfLoops, KeepsOrder, Looped, Loops, LoopsAttempt, attempts_of, deeds_of, history_of}
pub use Rattle.ckpt_task.specs.Loops.{turns_of}
pub use Rattle.ckpt_task.specs.Runs.{Around, HasRun, HasStopped, HasTurned, IsStopped, Waits, WasBegun, around, held_after, sink_waits}
pub use Rattle.ckpt_task.specs.SinkLoops.{AreGiven, AreSteps, HasSunkOver, HaveGiven, Ran, SinkAttempt, SinkRuns, Sinking, Step, WasTold, around_sink, loops_of, told_of}
pub use Rattle.ckpt_terms.proofs.{Fences.opening_fenced, Fences.replay_fenced, Known.present_after, KnownFiles.settled_outbox, OneTerm.one_term, Resuming.goes_on_alike, Stepping.fenced_on}
pub use Rattle.ckpt_terms.proofs.Stepping.{fenced_step_by}
pub use Rattle.ckpt_terms.specs.{Machines.core_in, NamedProgress.HasNames, TermsImages.AreFencedAlike, TermsImages.machine_settled, declared.call.FencedAnswer.FencedAnswer}
pub use Rattle.ckpt_terms.specs.{declared.call.FencedCall.FencedCall, declared.call.FencedCall.TheVariants.Advance, declared.call.FencedCall.TheVariants.Forfeit}
pub use Rattle.ckpt_terms.specs.{declared.call.FencedCall.TheVariants.Make, declared.call.FencedCall.TheVariants.Reserve, declared.machine.Machine.Machine}
pub use Rattle.ckpt_terms.specs.FencedLaws.{AreFencedCalls, CanFence, IsFenced, IsFencedCall, given_in, is_taken_in}
pub use Rattle.ckpt_terms.specs.Fencing.{Fenced, FencedStepped, core_calls, fence, fenced, fenced_replay, has_ended, passed, restart}
pub use Rattle.ckpt_unaligned.specs.Laws.{HasPart}
pub use Rattle.std.proofs.{lemmas.Bool.and_parts, lemmas.Bool.cond_both, lemmas.Bool.eqb-true, lemmas.Grind.common_steps, lemmas.List.map-append, lemmas.List.take-map}
pub use Rattle.std.proofs.{lemmas.Option.none-some, lemmas.Option.same_Some}
pub use Rattle.std.proofs.Common.{Bool, List, [], ap, append-nil, append_assoc, arith, cond, eqb, false, if◌then◌else◌, inl, inr, map, not, refl, subst, sym, take, take-append-drop, true, ℕ}
pub use Rattle.std.proofs.Common.{⊎_elim, ◌&&◌, ◌++◌, ◌+◌, ◌<◌, ◌||◌, ◌∙◌, ◌∷◌, ◌≡◌, ◌≤◌, ◌⊎◌}
pub use Rattle.std.specs.List.{list_any}
pub use Rattle.std.specs.Prelude.{None, Ok, Option, Some, drop, filter, nat_lt, slice_get, unwrap_or, ◌==◌}
unfoldable pub use Rattle.ckpt_align.specs.{Steps.barrier, Steps.give_up, Steps.settled}
unfoldable pub use Rattle.ckpt_model.specs.{Steps.step, Steps.step_computes}
unfoldable pub use Rattle.ckpt_terms.specs.Fencing.{fenced_step}
