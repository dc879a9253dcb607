-- The `all` line: each missing subtask of a pending record acknowledges, with one new file.
use Rattle.std.specs.Prelude.{◌≡◌, ℕ, ◌+◌, ◌^◌, not, ◌||◌, nat_lt, if◌then◌else◌, List, map, length, count_by, Option, Some, None}
use Rattle.std.specs.Option.{option_map, option_map_or}
use Rattle.std.specs.List.{enumerate_from}
use Rattle.ckpt_ids.specs.declared.subtask.SubtaskId.{SubtaskId}
use Rattle.ckpt_ids.specs.declared.ack.Metadata.{Metadata}
use Rattle.ckpt_ids.specs.declared.call.Call.{Call}
use Rattle.ckpt_ids.specs.declared.reply.Reply.TheVariants.{Shown}
use Rattle.ckpt_ids.specs.declared.reply.Answer.{Answer}
use Rattle.ckpt_ids.specs.declared.reply.Answer.TheVariants.{Done}
use Rattle.ckpt_ids.specs.Records.{metadata_of}
use Rattle.ckpt_model.specs.State.{State}
use Rattle.ckpt_model.specs.Refusals.{pending_of}
use Rattle.ckpt_model.specs.Histories.{replay, answers}
use Rattle.ckpt_model.specs.Interleavings.{NewFile, first_completed}
pub use Rattle.ckpt_model.specs.Interleavings.{ack_with}
use Rattle.ckpt_locked.specs.declared.limits.TheConstants.{MOST_SEATS}
use Rattle.ckpt_locked.specs.Books.{state_of_book}
use Rattle.ckpt_answers.specs.MetadataTexts.{missing, missing_subtasks}
use Rattle.ckpt_workers.specs.declared.team.Made.{Made}
use Rattle.ckpt_workers.specs.Teams.{is_accepted}
use Rattle.ckpt_session.specs.declared.all.AllLine.{AllLine}
use Rattle.ckpt_session.specs.declared.outcome.AllEnd.{AllEnd}
use Rattle.ckpt_session.specs.declared.outcome.AllEnd.TheVariants.{Completed, Pending}
use Rattle.ckpt_session.specs.declared.outcome.Outcome.{Outcome}
use Rattle.ckpt_session.specs.declared.outcome.Outcome.TheVariants.{Refused, Acknowledged}
use Rattle.ckpt_session.specs.declared.outcome.ScriptRefusal.TheVariants.{BadThreads, NotPending, FilesUsedUp}

-- the metadata, if the answer shows a pending record
unfoldable pub shown_pending : Answer → Option Metadata
shown_pending (Done (Shown m)) = if m.done then None else Some m
shown_pending answer = None

-- the metadata of the record with this number, if it is pending
abbrev pub pending_metadata : State → ℕ → Option Metadata
pending_metadata m id = option_map metadata_of (pending_of m.records id)

-- how many subtasks of the record with this number are missing
abbrev pub missing_now : State → ℕ → ℕ
missing_now m id = option_map_or missing (pending_metadata m id) 0

-- each of these subtasks with a new file, numbered from the first on
abbrev pub new_files : AllLine → List SubtaskId → List NewFile
new_files line missing = map (λ p. record { subtask = p.1; file = line.first + p.0 }) (enumerate_from 0 missing)

-- the acknowledgements of these subtasks
unfoldable pub acks_for : AllLine → List SubtaskId → List Call
acks_for line missing = map (ack_with line.moment line.id) (new_files line missing)

-- the coordinator's state after a line, and the line's outcome
abbrev pub Obeyed : Type 0
Obeyed = State × Outcome

-- the state of the record after so much of a completion
abbrev pub end_of : State → ℕ → Option (ℕ × ℕ) → AllEnd
end_of m id (Some (dropped, released)) = Completed dropped released
end_of m id None = Pending (missing_now m id)

-- the outcome of this many accepted and refused calls, and of the completion
unfoldable pub outcome_of : State → AllLine → ℕ → ℕ → Option (ℕ × ℕ) → Outcome
outcome_of m line accepted refused completed = Acknowledged accepted refused (end_of m line.id completed)

-- the same once a team has made the calls
abbrev pub outcome_of_made : AllLine → Made → Outcome
outcome_of_made line made = outcome_of (state_of_book made.book) line made.accepted made.refused made.completed

abbrev pub acknowledged : State → AllLine → List Call → Obeyed
acknowledged m line calls =
    let after : State = replay m calls in
    let given : List Answer = answers m calls in
    (after, outcome_of after line (count_by is_accepted given) (count_by (λ a. not (is_accepted a)) given) (first_completed given))

-- the numbers of the files go up to 2^64 - 1
unfoldable pub all_of : State → AllLine → Option Metadata → Obeyed
all_of m line None = (m, Refused NotPending)
all_of m line (Some metadata) =
    if nat_lt (2 ^ 64) (line.first + length (missing_subtasks metadata)) then (m, Refused FilesUsedUp)
    else acknowledged m line (acks_for line (missing_subtasks metadata))

-- the calls are made one after the other, in subtask order
unfoldable pub all_obeyed : State → AllLine → Obeyed
all_obeyed m line =
    if nat_lt line.threads 1 || nat_lt MOST_SEATS line.threads then (m, Refused BadThreads)
    else all_of m line (pending_metadata m line.id)

-- the team's book and its counts are those of the calls made one after the other
pub record IsAsInOrder (m : State) (calls : List Call) (made : Made) : Type 0 where
  pub state : state_of_book made.book ≡ replay m calls
  pub accepted : made.accepted ≡ count_by is_accepted (answers m calls)
  pub refused : made.refused ≡ count_by (λ a. not (is_accepted a)) (answers m calls)
  pub completed : made.completed ≡ first_completed (answers m calls)
