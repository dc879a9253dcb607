-- Which calls are refused, as a table whose first row that holds decides. The table is this project's own rule.
use Rattle.std.specs.Prelude.{ℕ, ◌+◌, Bool, true, false, not, ◌&&◌, ◌||◌, nat_lt, nat_le, ◌==◌, List, [], ◌∷◌, ◌++◌, find, length, count_by, if◌then◌else◌, Option, Some, None}
use Rattle.std.specs.List.{list_any}
use Rattle.ckpt_ids.specs.declared.limits.TheConstants.{MOMENTS_END, MOST_FILES, MOST_SAVEPOINTS, NUMBERS_END}
use Rattle.ckpt_ids.specs.declared.subtask.SubtaskId.{SubtaskId}
use Rattle.ckpt_ids.specs.declared.call.Target.TheVariants as target
use Rattle.ckpt_ids.specs.declared.call.Call.{Call}
use Rattle.ckpt_ids.specs.declared.call.Call.TheVariants.{Tick, Savepoint, Ack, Decline, Dispose, Restore, Cancel, Deleted, Undeleted, Show, Trigger, Configure}
use Rattle.ckpt_ids.specs.declared.reply.Refusal.{Refusal}
use Rattle.ckpt_ids.specs.declared.reply.Refusal.TheVariants.{MomentTooLarge, NotRunning, TooManyFiles, RepeatedFile, UnknownCheckpoint, UnknownSubtask, AlreadyAcknowledged}
use Rattle.ckpt_ids.specs.declared.reply.Refusal.TheVariants.{NameTaken, FileGone, NoSuchSavepoint, InUse, TooManySavepoints, NotTaken, NoSuchRecord, IdsUsedUp, AtOnce}
pub use Rattle.ckpt_ids.specs.Ordered.{has_repeats}
use Rattle.ckpt_ids.specs.Records.{Record, uses, is_present, has_acknowledged}
use Rattle.ckpt_ids.specs.Shapes.{is_subtask}
use Rattle.ckpt_rules.specs.Trigger.{limit}
use Rattle.ckpt_model.specs.declared.mode.Mode.{Mode}
use Rattle.ckpt_model.specs.declared.mode.Mode.TheVariants.{Running, Failed, Cancelled}
use Rattle.ckpt_model.specs.State.{State, record_of, is_pending, is_checkpoint, is_known}

abbrev pub refuse_if : Bool → Refusal → Option Refusal
refuse_if b why = if b then Some why else None

-- the first row that holds
abbrev pub first_some : List (Option Refusal) → Option Refusal
first_some [] = None
first_some (Some why ∷ rows) = Some why
first_some (None ∷ rows) = first_some rows

abbrev pub moment_of : Call → Option ℕ
moment_of (Tick now) = Some now
moment_of (Savepoint now) = Some now
moment_of (Ack now id subtask fresh reused) = Some now
moment_of (Decline now id subtask) = Some now
moment_of (Restore now target shape) = Some now
moment_of (Cancel now) = Some now
moment_of (Trigger now) = Some now
moment_of (Configure now config) = Some now
moment_of call = None

abbrev pub is_running : Mode → Bool
is_running Running = true
is_running Failed = false
is_running Cancelled = false

abbrev pub is_cancelled : Mode → Bool
is_cancelled Running = false
is_cancelled Failed = false
is_cancelled Cancelled = true

-- the record with this number, if it is pending
abbrev pub pending_of : List Record → ℕ → Option Record
pending_of records id = find (λ r. is_pending r && (r.id == id)) records

abbrev pub is_done_savepoint : State → ℕ → Bool
is_done_savepoint m id = list_any (λ r. r.done && not (is_checkpoint r) && (r.id == id)) m.records

abbrev pub savepoints : State → ℕ
savepoints m = count_by (λ r. not (is_checkpoint r)) m.records

-- the rows
abbrev pub moment_too_large : Option ℕ → Option Refusal
moment_too_large None = None
moment_too_large (Some now) = refuse_if (nat_le MOMENTS_END now) MomentTooLarge

abbrev pub not_running : State → Call → Option Refusal
not_running m (Tick now) = refuse_if (not (is_running m.mode)) NotRunning
not_running m (Savepoint now) = refuse_if (not (is_running m.mode)) NotRunning
not_running m (Restore now target shape) = refuse_if (is_cancelled m.mode) NotRunning
not_running m (Cancel now) = refuse_if (is_cancelled m.mode) NotRunning
not_running m (Trigger now) = refuse_if (not (is_running m.mode)) NotRunning
not_running m (Configure now config) = refuse_if (is_cancelled m.mode) NotRunning
not_running m call = None

abbrev pub too_many_files : Call → Option Refusal
too_many_files (Ack now id subtask fresh reused) = refuse_if (nat_lt MOST_FILES (length fresh + length reused)) TooManyFiles
too_many_files call = None

abbrev pub repeated_file : Call → Option Refusal
repeated_file (Ack now id subtask fresh reused) = refuse_if (has_repeats (fresh ++ reused)) RepeatedFile
repeated_file call = None

-- the two rows on the files of an acknowledgement
abbrev pub files_refusal : List ℕ → List ℕ → Option Refusal
files_refusal fresh reused =
    let too_many : Option Refusal = refuse_if (nat_lt MOST_FILES (length fresh + length reused)) TooManyFiles in
    let repeated : Option Refusal = refuse_if (has_repeats (fresh ++ reused)) RepeatedFile in
    first_some (too_many ∷ repeated ∷ [])

-- never given to a record
abbrev pub was_not_given : State → ℕ → Bool
was_not_given m id = nat_lt id m.opening.first || nat_le m.next id

abbrev pub unknown_checkpoint : State → Call → Option Refusal
unknown_checkpoint m (Ack now id subtask fresh reused) = refuse_if (was_not_given m id) UnknownCheckpoint
unknown_checkpoint m (Decline now id subtask) = refuse_if (was_not_given m id) UnknownCheckpoint
unknown_checkpoint m call = None

abbrev pub is_foreign : Option Record → SubtaskId → Option Refusal
is_foreign None s = None
is_foreign (Some r) s = refuse_if (not (is_subtask r.shape s)) UnknownSubtask

abbrev pub unknown_subtask : State → Call → Option Refusal
unknown_subtask m (Ack now id subtask fresh reused) = is_foreign (pending_of m.records id) subtask
unknown_subtask m (Decline now id subtask) = is_foreign (pending_of m.records id) subtask
unknown_subtask m call = None

abbrev pub is_repeat : Option Record → SubtaskId → Option Refusal
is_repeat None s = None
is_repeat (Some r) s = refuse_if (has_acknowledged r s) AlreadyAcknowledged

abbrev pub already_acknowledged : State → Call → Option Refusal
already_acknowledged m (Ack now id subtask fresh reused) = is_repeat (pending_of m.records id) subtask
already_acknowledged m call = None

abbrev pub named : (ℕ → Refusal) → Option ℕ → Option Refusal
named why None = None
named why (Some f) = Some (why f)

abbrev pub where_pending : {X : Type 0} → Option Record → Option X → Option X
where_pending None o = None
where_pending (Some r) o = o

-- the least file: files come in ascending order
abbrev pub name_taken : State → Call → Option Refusal
name_taken m (Ack now id subtask fresh reused) = where_pending (pending_of m.records id) (named NameTaken (find (is_known m) fresh))
name_taken m call = None

abbrev pub file_gone : State → Call → Option Refusal
file_gone m (Ack now id subtask fresh reused) =
    let gone : Option ℕ = find (λ f. not (is_present (uses m.records) f)) reused in
    where_pending (pending_of m.records id) (named FileGone gone)
file_gone m call = None

abbrev pub no_such_savepoint : State → Call → Option Refusal
no_such_savepoint m (Dispose id) = refuse_if (not (is_done_savepoint m id)) NoSuchSavepoint
no_such_savepoint m (Restore now (target.Savepoint id) shape) = refuse_if (not (is_done_savepoint m id)) NoSuchSavepoint
no_such_savepoint m call = None

abbrev pub is_number : Option ℕ → ℕ → Bool
is_number None id = false
is_number (Some base) id = base == id

abbrev pub in_use : State → Call → Option Refusal
in_use m (Dispose id) = refuse_if (is_number m.base id) InUse
in_use m call = None

abbrev pub too_many_savepoints : State → Call → Option Refusal
too_many_savepoints m (Savepoint now) = refuse_if (nat_le MOST_SAVEPOINTS (savepoints m)) TooManySavepoints
too_many_savepoints m call = None

abbrev pub not_taken : State → Call → Option Refusal
not_taken m (Deleted file) = refuse_if (not (list_any (λ f. f == file) m.taken)) NotTaken
not_taken m (Undeleted file) = refuse_if (not (list_any (λ f. f == file) m.taken)) NotTaken
not_taken m call = None

abbrev pub no_record : Option Record → Option Refusal
no_record None = Some NoSuchRecord
no_record (Some r) = None

abbrev pub no_such_record : State → Call → Option Refusal
no_such_record m (Show id) = no_record (record_of m id)
no_such_record m call = None

abbrev pub ids_used_up : State → Call → Option Refusal
ids_used_up m (Tick now) = refuse_if (nat_le NUMBERS_END m.next) IdsUsedUp
ids_used_up m (Savepoint now) = refuse_if (nat_le NUMBERS_END m.next) IdsUsedUp
ids_used_up m (Trigger now) = refuse_if (nat_le NUMBERS_END m.next) IdsUsedUp
ids_used_up m call = None

abbrev pub pending_checkpoints : State → ℕ
pending_checkpoints m = count_by (λ r. is_pending r && is_checkpoint r) m.records

-- a trigger: as many are pending as may be; a configuration: more are than it allows
abbrev pub at_once : State → Call → Option Refusal
at_once m (Trigger now) = refuse_if (nat_le (limit m.opening.config) (pending_checkpoints m)) AtOnce
at_once m (Configure now config) = refuse_if (nat_lt (limit config) (pending_checkpoints m)) AtOnce
at_once m call = None

unfoldable pub refusal : State → Call → Option Refusal
refusal m call = first_some (
    moment_too_large (moment_of call)
    ∷ not_running m call
    ∷ too_many_files call
    ∷ repeated_file call
    ∷ unknown_checkpoint m call
    ∷ unknown_subtask m call
    ∷ already_acknowledged m call
    ∷ name_taken m call
    ∷ file_gone m call
    ∷ no_such_savepoint m call
    ∷ in_use m call
    ∷ too_many_savepoints m call
    ∷ not_taken m call
    ∷ no_such_record m call
    ∷ ids_used_up m call
    ∷ at_once m call
    ∷ [])
