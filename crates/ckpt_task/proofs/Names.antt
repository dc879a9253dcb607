-- The names that the proofs take from the crates below and from `specs`.
pub use Rattle.ckpt_align.proofs.{Cutting.reads_cut-element, Fitting.element_reads-other, GoingOn.cuts_rise}
pub use Rattle.ckpt_align.specs.{Alignment.Alignment, Alignment.opened, Laws.Channel, Laws.HasCut, Laws.sent_on, Laws.taken_from, Steps.element, declared.event.Answer.Answer}
pub use Rattle.ckpt_align.specs.{declared.event.Answer.TheVariants.Hold, declared.event.Refusal.Refusal, declared.input.Input.Input}
pub use Rattle.ckpt_align.specs.Histories.{Action, Barrier, Element, End, Ends, GivesUp, Item, Reads, Sends, after, answer_to, barriers, cut_as, cut_by, elements, has_cut, has_ended}
pub use Rattle.ckpt_align.specs.Histories.{is_number, is_taken, replay, sent, sent_by, taken}
pub use Rattle.ckpt_cuts.specs.Laws.{AcknowledgesCuts}
pub use Rattle.ckpt_ids.proofs.{OrderLemmas.same_subtask-Decides, OrderedLemmas.IsIn-append_right, ResultLemmas.on_each_error}
pub use Rattle.ckpt_ids.specs.{Ordered.IsIn, Records.Record, Shapes.same_subtask, declared.ack.Acked.Acked, declared.call.Call.Call, declared.numbers.Kind.TheVariants.Checkpoint}
pub use Rattle.ckpt_ids.specs.declared.subtask.SubtaskId.{SubtaskId}
pub use Rattle.ckpt_ledger.proofs.{Publishing.publishes_as_sink, Publishing.writes_held, Timely.Found, Timely.found}
pub use Rattle.ckpt_ledger.proofs.Restarting.{acts-append, been_cut, completed-append, entries_with, published-append, published_then, with_word}
pub use Rattle.ckpt_ledger.specs.Laws.{AreMomentsOf}
pub use Rattle.ckpt_ledger.specs.Ledgers.{Acts, Completes, Entry, HaveBeenCut, Held, Moment, Told, Writes, after_entries, after_entry, all_published, completed, entries, nothing, told_of}
pub use Rattle.ckpt_model.specs.{Laws.CanOpen, Laws.accepted_by, Laws.along, State.Opening}
pub use Rattle.ckpt_once.proofs.{ActionLemmas.replay-append, ActionLemmas.sent-append, ActionLemmas.stopped, ActionLemmas.taken-append, Publishing.cut_stays, Restarting.restarts_invisible}
pub use Rattle.ckpt_once.proofs.{Running.before_turns, Running.of_here, Running.of_there, Sealing.elements_barriers}
pub use Rattle.ckpt_once.proofs.TurnLemmas.{aligned_is, has_ended_sendings, taken_sendings, turns_all, turns_before}
pub use Rattle.ckpt_once.specs.{Restarts.AreRestarts, Restarts.WasDone, WorkedExamples.adder, WorkedExamples.job, WorkedExamples.line, WorkedExamples.source}
pub use Rattle.ckpt_once.specs.Jobs.{Attempt, By, GivesInOrder, History, IsHistory, IsJob, IsTurnOf, Job, States, network, of, restored, snapshots, starts}
pub use Rattle.ckpt_once.specs.Programs.{Drawn, Emitted, Ended, GivenUp, Move, Offered, Program, Turn, actions, acts, aligned, emitted_by, move_in, moves_in, on_output, sendings, state}
pub use Rattle.ckpt_once.specs.Programs.{told, with_one}
pub use Rattle.ckpt_once.specs.Sinks.{AreLast, Sink, Transaction, above, contents, published_before, published_in, up_to}
pub use Rattle.ckpt_task.specs.{Restores.AreSaved, Restores.RestoresSnapshot, Saving.Saved, Saving.state_of, Saving.under, Saving.waiting_of, SinkTurns.SinkAt, SinkTurns.after_outcome}
pub use Rattle.ckpt_task.specs.{SinkTurns.after_turn, declared.deed.Deed.Deed, declared.deed.Deed.TheVariants.Acknowledged, declared.deed.Deed.TheVariants.Came}
pub use Rattle.ckpt_task.specs.{declared.deed.Deed.TheVariants.Declined, declared.deed.Deed.TheVariants.Sent, declared.deed.Deed.TheVariants.SentBarrier}
pub use Rattle.ckpt_task.specs.{declared.deed.Deed.TheVariants.SentEnd, declared.deed.Deed.TheVariants.Took, declared.turn.Next.Next, declared.turn.Outcome.Outcome}
pub use Rattle.ckpt_task.specs.{declared.turn.Outcome.TheVariants.Abandoned, declared.turn.Outcome.TheVariants.Cut, declared.turn.Outcome.TheVariants.Moved}
pub use Rattle.ckpt_task.specs.{declared.turn.Outcome.TheVariants.Nothing, declared.turn.Outcome.TheVariants.Unsaved}
pub use Rattle.ckpt_task.specs.Deeds.{Acknowledges, Declines, IsPart, IsUndone, IsUnfinished, Word, after_sends, as_came, came_in, deeds_after, last_on, sent_in, taken_in, told_in, words_of}
pub use Rattle.ckpt_task.specs.Engines.{IsAtFront, IsWorking, Snapped, begun, engine, has_ended_in, put_by, snapped_at, snapped_by, taken_by}
pub use Rattle.ckpt_task.specs.Faults.{AreFailing, CountAsLoops, CountsAs, FaultsCount, HasFailed, HasLoopedOrFailed}
pub use Rattle.ckpt_task.specs.Laws.{AcknowledgesSnapped, AreEngines, AreSeamless, MakesHistory, SnapsAtCut, WasCompletedBy}
pub use Rattle.ckpt_task.specs.Loops.{AcceptsTold, AreLooping, AreLoopsAttempts, AreRuns, HasLooped, IsDownstreamFirst, IsHistoryOfLoops, KeepsOrder, Looped, Loops, LoopsAreSeamless}
pub use Rattle.ckpt_task.specs.Loops.{LoopsAttempt, LoopsMakeHistory, LoopsRestore, attempts_of, deeds_of, history_of, one_by_one, turns_of}
pub use Rattle.ckpt_task.specs.Runs.{AreKept, Around, HasRun, HasStopped, HasSunk, HasSunkOnce, HasTurned, IsKept, IsKeptBy, IsStopped, Kept, Waits, WasBegun, acknowledged, after_turns}
pub use Rattle.ckpt_task.specs.Runs.{around, held_after, kept_in, sink_waits, waits_none}
pub use Rattle.ckpt_task.specs.SinkLoops.{AreSteps, HasGiven, IsToldOf, Ran, SinkAttempt, SinkGivesOnce, SinkGivesOverRestarts, SinkPublishes, SinkRuns, Sinking, Step, WasTold, around_sink}
pub use Rattle.ckpt_task.specs.SinkLoops.{from_of, loops_of}
pub use Rattle.ckpt_task.specs.Turns.{At, IsSaved, IsToldAs, abandoned_as, abandoned_in, answer_in, as_turn, cut_in, cut_of, emitted_in, is_held, is_left, is_unsaved, put_on, puts}
pub use Rattle.ckpt_task.specs.Turns.{refusal_as, refusals_of, takes, turned}
pub use Rattle.ckpt_task.specs.WorkedLoops.{adder_again, adder_did, after_100, again, at, attempt, begin, calls, failed, going, opening, source_again, source_did, with_100}
pub use Rattle.std.proofs.{lemmas.Bool.both_ways, lemmas.Bool.cond_both, lemmas.Bool.eqb-true, lemmas.Bool.or_from, lemmas.Grind.common_steps, lemmas.List.append-nil}
pub use Rattle.std.proofs.{lemmas.List.append_assoc, lemmas.List.at_drop_more, lemmas.List.map-append, lemmas.Option.none-some, lemmas.Option.same_Some}
pub use Rattle.std.proofs.Common.{Bool, Err, List, None, Ok, Option, Some, [], ap, arith, drop, eqb, false, if◌then◌else◌, inl, inr, length, map, nat_le, refl, rules, slice_index_or, subst}
pub use Rattle.std.proofs.Common.{sym, true, ℕ, ◌++◌, ◌+◌, ◌<◌, ◌==◌, ◌∙◌, ◌∷◌, ◌≡◌, ◌≤◌}
pub use Rattle.std.specs.{Prelude.MatchBool, Prelude.OnErr, Prelude.Result, Prelude.slice_get, Prelude.◌&&◌, Prelude.◌≢◌, Prelude.◌⊎◌}
unfoldable pub use Rattle.ckpt_align.specs.{Steps.barrier, Steps.settled, Steps.step}
unfoldable pub use Rattle.ckpt_model.specs.Steps.{step_computes}
