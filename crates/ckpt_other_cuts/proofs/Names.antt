-- The names that the proofs take from the crates below and from `specs`.
pub use Rattle.ckpt_align.proofs.{Carrying.is_number-Some, Carrying.processed_before, Carrying.sent_before, Cutting.local_cut, Cutting.reads_cut-element, ItemLemmas.Runs}
pub use Rattle.ckpt_align.proofs.{ItemLemmas.elements-append, ItemLemmas.runs_not_fixed}
pub use Rattle.ckpt_align.specs.{Alignment.Alignment, Alignment.is_open, Laws.Channel, Laws.HasCut, Laws.IsConnected, Laws.IsInOrder, Laws.Network, Laws.Task, declared.event.Refusal.Refusal}
pub use Rattle.ckpt_align.specs.{declared.input.Input.Input, declared.input.Input.TheVariants.Ended, declared.input.Input.TheVariants.Held, declared.input.Input.TheVariants.Open}
pub use Rattle.ckpt_align.specs.Histories.{Action, Barrier, Element, End, Ends, GivesUp, Item, after, answer_to, before, before_cut, cut_by, elements, has_cut, is_number, is_taken}
pub use Rattle.ckpt_align.specs.Histories.{processed, replay, sent, taken, taken_by}
pub use Rattle.ckpt_cuts.proofs.{Consistency.each-from_done, Consistency.has_cut-from_done}
pub use Rattle.ckpt_cuts.specs.Laws.{AcknowledgesCuts}
pub use Rattle.ckpt_ids.proofs.{OrderLemmas.same_subtask-Decides, OrderedLemmas.IsIn-append_cases, OrderedLemmas.IsIn-append_left, OrderedLemmas.IsIn-append_right}
pub use Rattle.ckpt_ids.specs.{Ordered.IsIn, Records.Record, Shapes.same_subtask, Shapes.subtasks, declared.ack.Acked.Acked, declared.call.Call.Call}
pub use Rattle.ckpt_ids.specs.{declared.numbers.Kind.TheVariants.Checkpoint, declared.subtask.SubtaskId.SubtaskId}
pub use Rattle.ckpt_model.specs.{Laws.AreCalls, Laws.CanOpen, Laws.accepted_by, Laws.along, State.Opening}
pub use Rattle.ckpt_once.proofs.{ActionLemmas.before_begins, ActionLemmas.prefix_trans, ActionLemmas.taken-append, PlainRuns.run_is_history, Publishing.published_attempt}
pub use Rattle.ckpt_once.proofs.{Restarting.have_cut, Running.of_here, Running.of_there, Running.prefix_like, Running.record_is_of_run, Running.without_barriers, Sealing.contents-append}
pub use Rattle.ckpt_once.proofs.{Sealing.published_begins, Sealing.published_up_to, TurnLemmas.on_output-append}
pub use Rattle.ckpt_once.proofs.Joining.{emitted-append, from_input-append, is_quiet-join, put-join, runs_join, states-join, taken-join}
pub use Rattle.ckpt_once.specs.{Restarts.WasDone, WorkedExamples.adder, WorkedExamples.source}
pub use Rattle.ckpt_once.specs.Jobs.{By, GivesInOrder, HaveCut, History, IsHistory, IsJob, IsMoveOf, IsPrefix, IsQuiet, IsRun, Job, Run, States, before_cuts, network, of, put_on, run_of}
pub use Rattle.ckpt_once.specs.Jobs.{starts, states_after, taken_off}
pub use Rattle.ckpt_once.specs.Programs.{Drawn, Draws, Emitted, Move, Offered, Program, Takes, Turn, emitted, from_input, on_output, state, with_one}
pub use Rattle.ckpt_once.specs.Sinks.{Sink, Transaction, contents, published, published_in, up_to, written}
pub use Rattle.ckpt_other_cuts.specs.{Stops.EndsWithout, Stops.has_stop, WorkedRecorders.attempt, WorkedRestarts.again, WorkedRestarts.calls, WorkedRestarts.failed, WorkedRestarts.given}
pub use Rattle.ckpt_other_cuts.specs.{WorkedRestarts.opening, WorkedRestarts.reshaped, WorkedRestarts.restart, WorkedRestarts.turn, WorkedResumes.are_stretches, WorkedResumes.at_line}
pub use Rattle.ckpt_other_cuts.specs.WorkedResumes.{stretch}
pub use Rattle.ckpt_other_cuts.specs.Finished.{AcknowledgesParts, DoneIsConsistent, FinishedCut, HasFinished, HasItsPart}
pub use Rattle.ckpt_other_cuts.specs.Loose.{AtLeastOnce, DoneLosesNone, LosesNone, LosesNoneBetween, is_answer, let_by, let_through}
pub use Rattle.ckpt_other_cuts.specs.Rescaled.{Entry, IsRecord, IsRouted, IsSplit, KeyStates, Redistributes, Rescaling, RescalingInvisible, RestoresKeys, Split, TwiceIsOnce, Vertex}
pub use Rattle.ckpt_other_cuts.specs.Rescaled.{after_one, all, begins, elements_of, emitted_for, entries_of, its_own, joined, loaded, redistributed}
pub use Rattle.ckpt_other_cuts.specs.Reshaped.{AreRestarts, IsBegun, IsEnded, IsForOwn, IsOfKey, IsRoutedByKey, IsShapeOf, ReshapingInvisible, Restart, Spread, Stage, channel_over}
pub use Rattle.ckpt_other_cuts.specs.Reshaped.{emitted_of, finest, key_states, outlet, published_before, published_now, recorded, sink_over, taken_of}
pub use Rattle.ckpt_other_cuts.specs.Restarted.{AreStretches, Begin, Doing, Doings, IsRunFrom, Moves, RecordersKeepChannels, RestartsInvisible, Snaps, Stretch, anew, before_snaps}
pub use Rattle.ckpt_other_cuts.specs.Restarted.{begin_after, has_snapped, is_snap, kept_moves, moves, run_of_stretches, with_doing}
pub use Rattle.ckpt_other_cuts.specs.Resumed.{AreResumes, Attempt, IsResume, ResumesInvisible, Sealing, WasRecorded, sealed_more, sealing, snap_of, snaps_in, snaps_said, stretches}
pub use Rattle.ckpt_other_cuts.specs.WorkedShapes.{by, is_out_of, job, keys, line, part_of, run, spread, stage, subtask, sum_on, sums}
pub use Rattle.ckpt_unaligned.proofs.Parts.{global_part}
pub use Rattle.ckpt_unaligned.specs.{Histories.Overtakes, Histories.Reads, Histories.Sends, Histories.done, Histories.snap_as, Histories.whole_as, Laws.HasPart, Laws.part_in, Steps.Stepped}
pub use Rattle.ckpt_unaligned.specs.{Steps.element, Steps.if_open, Steps.is_free_for, Steps.whole, declared.answer.Answer.Answer, declared.answer.Answer.TheVariants.Abandon}
pub use Rattle.ckpt_unaligned.specs.{declared.answer.Answer.TheVariants.Hold, declared.answer.Answer.TheVariants.Late, declared.answer.Answer.TheVariants.Nothing}
pub use Rattle.ckpt_unaligned.specs.{declared.answer.Answer.TheVariants.Process, declared.answer.Answer.TheVariants.Snap, declared.answer.Answer.TheVariants.Wait}
pub use Rattle.ckpt_unaligned.specs.declared.answer.Phase.{Phase}
pub use Rattle.ckpt_unaligned.specs.Recording.{Recorder, begun, delivered, ended, is_idle, is_late, is_recording, opened, overtaken, with_input}
pub use Rattle.std.proofs.{Math.Path.fun_ext, lemmas.Grind.common_steps, lemmas.List.Elements.filter-append, lemmas.List.append-nil, lemmas.List.append_assoc, lemmas.List.map-append}
pub use Rattle.std.proofs.{lemmas.Nat.div-mul-add, lemmas.Nat.mod-mul-add, lemmas.Nat.mod_below, lemmas.Option.none-some, lemmas.Option.same_Some}
pub use Rattle.std.proofs.Common.{Bool, List, Some, [], ap, arith, false, if◌then◌else◌, inl, inr, lt_irrefl, map, nat_le, refl, subst, suc, sym, true, zero, ℕ, ⊎_elim, ◌%◌, ◌&&◌, ◌*◌, ◌++◌}
pub use Rattle.std.proofs.Common.{◌+◌, ◌/◌, ◌<◌, ◌==◌, ◌∙◌, ◌∷◌, ◌≡◌, ◌≢◌, ◌≤◌}
pub use Rattle.std.proofs.lemmas.Bool.{and_parts, both_ways, eq-eqb, eqb-false, eqb-true, false_from_ne_true, le-leb, lt-leb, ne_eqb, or_left, or_parts, or_right}
pub use Rattle.std.specs.{List.filter, List.list_any, Prelude.None, Prelude.Ok, Prelude.Option, Prelude.Result, Prelude.nat_lt, Prelude.not, Prelude.slice_get, Prelude.◌||◌, Prelude.◌⊎◌}
unfoldable pub use Rattle.ckpt_model.specs.Steps.{step_computes}
unfoldable pub use Rattle.ckpt_unaligned.specs.{Steps.barrier, Steps.give_up, Steps.overtake, Steps.settled, Steps.step}
