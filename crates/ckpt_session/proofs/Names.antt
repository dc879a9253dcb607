-- The names that the proofs take from the crates below and from `specs`.
pub use Rattle.ckpt_answers.specs.MetadataTexts.{has_acknowledged}
unfoldable pub use Rattle.ckpt_answers.specs.MetadataTexts.{missing_subtasks}
pub use Rattle.ckpt_ids.specs.Configuration.{Configuration}
pub use Rattle.ckpt_ids.specs.Ordered.{IsIn}
pub use Rattle.ckpt_ids.specs.Records.{Record, metadata_of}
pub use Rattle.ckpt_ids.specs.Shapes.{is_shape, same_subtask, subtasks}
pub use Rattle.ckpt_ids.specs.declared.ack.Acked.{Acked}
pub use Rattle.ckpt_ids.specs.declared.ack.Metadata.{Metadata}
pub use Rattle.ckpt_ids.specs.declared.call.Call.{Call}
pub use Rattle.ckpt_ids.specs.declared.call.Call.TheVariants.{Show}
pub use Rattle.ckpt_ids.specs.declared.limits.TheConstants.{MOMENTS_END}
pub use Rattle.ckpt_ids.specs.declared.reply.Answer.{Answer}
pub use Rattle.ckpt_ids.specs.declared.subtask.SubtaskId.{SubtaskId}
pub use Rattle.ckpt_lines.specs.declared.fault.LineFault.{LineFault}
pub use Rattle.ckpt_lines.specs.declared.line.Line.{Line}
pub use Rattle.ckpt_locked.specs.Books.{History, calls_of, entered, newly_opened}
unfoldable pub use Rattle.ckpt_locked.specs.Books.{answer_to, state_of_book}
pub use Rattle.ckpt_locked.specs.Seats.{SeatsBelow, answers_by, calls_by}
pub use Rattle.ckpt_locked.specs.declared.book.Entry.{Entry}
pub use Rattle.ckpt_locked.specs.declared.limits.TheConstants.{MOST_SEATS}
pub use Rattle.ckpt_model.specs.Histories.{answers, replay}
pub use Rattle.ckpt_model.specs.Interleavings.{ack_with, of_seat}
pub use Rattle.ckpt_model.specs.Refusals.{pending_of}
unfoldable pub use Rattle.ckpt_model.specs.Refusals.{refusal}
pub use Rattle.ckpt_model.specs.Soundness.{IsSound}
pub use Rattle.ckpt_model.specs.State.{Opening, State, is_pending, opened, record_of}
pub use Rattle.ckpt_model.specs.Steps.{Stepped, show}
unfoldable pub use Rattle.ckpt_model.specs.Steps.{effect, step}
pub use Rattle.ckpt_session.specs.AllLines.{IsAsInOrder, Obeyed, acknowledged, pending_metadata}
unfoldable pub use Rattle.ckpt_session.specs.AllLines.{acks_for, all_of, shown_pending}
pub use Rattle.ckpt_session.specs.ScriptTexts.{is_said}
unfoldable pub use Rattle.ckpt_session.specs.ScriptTexts.{outcome_bytes}
pub use Rattle.ckpt_session.specs.Seating.{Asks, EntersAll, Staged, by_line, entries_after}
unfoldable pub use Rattle.ckpt_session.specs.Seating.{Enters, EntersFor}
pub use Rattle.ckpt_session.specs.Sessions.{Done, Said, Scene, refused, started_so_far, told}
unfoldable pub use Rattle.ckpt_session.specs.Sessions.{all_called, called, configured, obeyed, said, shaped, started}
pub use Rattle.ckpt_session.specs.declared.all.AllLine.{AllLine}
pub use Rattle.ckpt_session.specs.declared.outcome.Outcome.TheVariants.{Answered, Refused, Silent}
pub use Rattle.ckpt_session.specs.declared.outcome.ScriptRefusal.TheVariants.{FilesUsedUp, MomentTooLarge, Started}
pub use Rattle.ckpt_workers.specs.Teams.{IsTeamwork, is_accepted}
pub use Rattle.std.proofs.Common.{Bool, Err, List, None, Ok, Option, Result, Some, [], ap, append-nil, append_assoc, arith, cond, eqb, false, get_or, length, ltb, map, not, refl, rules, subst, sym}
pub use Rattle.std.proofs.Common.{take, tests, true, ℕ, ⊎_elim, ◌%◌, ◌&&◌, ◌++◌, ◌+◌, ◌<◌, ◌^◌, ◌∙◌, ◌∷◌, ◌≡◌, ◌≤◌}
pub use Rattle.std.proofs.lemmas.Bool.{and_parts, both_ways, cases_Bool, cases_lt, cond-false, eqb-true, le-ltb, not-true}
pub use Rattle.std.proofs.lemmas.List.{length-take-le, map-append, take_more}
pub use Rattle.std.proofs.lemmas.List.Elements.{All-append, All-cons, All-nil, filter_more}
pub use Rattle.std.proofs.lemmas.Result.{on_ok_weaker}
pub use Rattle.std.specs.List.{enumerate_from, list_any}
pub use Rattle.std.specs.List.Sorted.{IsBinarySearchResult, IsSearchInRange, IsSortedBy}
pub use Rattle.std.specs.Option.{option_map_or}
pub use Rattle.std.specs.Prelude.{IfOk, OnErr, count_by, filter, is_some, nat_le, option_map, slice_get, string_bytes}
