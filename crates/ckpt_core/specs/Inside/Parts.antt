-- The parts of a coordinator, seen as its state, and what ties them to one another.
use Rattle.std.specs.Prelude.{◌≡◌, ℕ, ◌≤◌, Bool, true, false, ◌||◌, ◌==◌, List, [], ◌++◌, length, unwrap_or, None, not, ◌∷◌, find, Option, Some, is_none, if◌then◌else◌, slice_get}
use Rattle.std.specs.List.{list_any}
use Rattle.std.specs.Vec.{vec_capacity}
use Rattle.ckpt_ids.specs.declared.call.Call.{Call}
use Rattle.ckpt_ids.specs.declared.call.Call.TheVariants.{Tick, Savepoint, Ack, Decline, Dispose, Restore, Take, Deleted, Undeleted, Show, Trigger}
use Rattle.ckpt_ids.specs.declared.reply.Reply.{Reply}
use Rattle.ckpt_ids.specs.declared.reply.Answer.TheVariants.{Done}
use Rattle.ckpt_ids.specs.Ordered.{IsIn}
use Rattle.ckpt_ids.specs.Places.{LiesAt}
use Rattle.ckpt_ids.specs.Records.{Record, uses, is_present}
use Rattle.ckpt_outbox.specs.Queues.{is_known}
use Rattle.ckpt_store.specs.Storing.{id_of}
use Rattle.ckpt_core.specs.declared.parts.Opened.{Opened}
use Rattle.ckpt_core.specs.declared.parts.Parts.{Parts}
use Rattle.ckpt_model.specs.State.{State, Opening, drop, released_by}
use Rattle.ckpt_model.specs.Refusals.{refusal, first_some, is_foreign, is_repeat, named, pending_of}
use Rattle.ckpt_model.specs.Steps.{step}
use Rattle.ckpt_model.specs.Soundness.{IsSound}
use Rattle.ckpt_model.specs.Reads.{present_in}
pub use Rattle.ckpt_core.specs.Inside.Grouped.{records_of, with_pins}
use Rattle.ckpt_ids.specs.declared.subtask.SubtaskId.{SubtaskId}
use Rattle.ckpt_ids.specs.declared.reply.Refusal.{Refusal}
use Rattle.ckpt_ids.specs.declared.reply.Refusal.TheVariants.{NameTaken, FileGone}

abbrev pub records_in : Parts → List Record
records_in p = records_of p.registry p.pending p.store.checkpoints p.store.savepoints

abbrev pub opening_of : Opened → Opening
opening_of o = record { config = o.config; shape = o.shape; start = o.start; first = o.first }

-- the state that the parts stand for
unfoldable pub state_of : Parts → State
state_of p = record {
  opening = opening_of p.opened;
  shape = unwrap_or p.reshaped p.opened.shape;
  mode = p.mode;
  latest = p.clock.latest;
  due = p.clock.due;
  completed = p.clock.completed;
  failures = p.failures.number;
  next = p.next;
  base = p.store.base;
  records = records_in p;
  waiting = p.outbox.waiting;
  taken = p.outbox.taken;
}

-- what ties the parts together
pub record AreTied (p : Parts) : Type 0 where
  -- the registry has the uses, pins included, of all live records together
  pub uses_are : p.registry ≡ uses (records_in p)
  pub retained : p.store.retained ≡ p.opened.config.retained
  pub tolerable : p.failures.tolerable ≡ p.opened.config.tolerable
  -- each file that is in use has its place in the outbox reserved
  pub spare : present_in p.registry ≤ p.outbox.spare
  -- each live record has its place among the numbers that end
  pub room : length (records_in p) ≤ vec_capacity p.ended

-- the parts between two calls
pub record AreSound (p : Parts) : Type 0 where
  pub tied : AreTied p
  pub sound : IsSound (state_of p)
  pub none_ended : p.ended.items ≡ []

-- whether the number of a record was noted
abbrev pub is_noted : List ℕ → Record → Bool
is_noted ids r = list_any (λ i. r.id == i) ids

-- no done record was noted
abbrev pub NotesPendingOnly : Parts → Type 0
NotesPendingOnly p = (r : Record) → IsIn r (p.store.checkpoints ++ p.store.savepoints) → is_noted p.ended.items r ≡ false

-- no file in use waits for deletion or was fetched for it
abbrev pub AreInUseAlone : Parts → Type 0
AreInUseAlone p = (f : ℕ) → is_present p.registry f ≡ true → is_known p.outbox f ≡ false

abbrev pub IsAccepted : Parts → Call → Type 0
IsAccepted p call = refusal (state_of p) call ≡ None

-- the call was accepted, with this answer
pub record Answers (old new : Parts) (call : Call) (reply : Reply) : Type 0 where
  pub step_is : step (state_of old) call ≡ (state_of new, Done reply)
  pub tied : AreTied new
  pub none_ended : new.ended.items ≡ []

-- the state has not changed
pub record Stays (old new : Parts) : Type 0 where
  pub state_is : state_of new ≡ state_of old
  pub tied : AreTied new
  pub none_ended : new.ended.items ≡ []

-- the records that pass the test were dropped, and this many files released
pub record Drops (old new : Parts) (dropped : Record → Bool) (count : ℕ) : Type 0 where
  pub state_is : state_of new ≡ drop (state_of old) dropped None
  pub count_is : count ≡ length (released_by (state_of old) dropped None)
  pub tied : AreTied new
  pub none_ended : new.ended.items ≡ []

-- whether a file is in use, waits for deletion or was fetched for it
abbrev pub is_known_in : Parts → ℕ → Bool
is_known_in p f = is_present p.registry f || is_known p.outbox f

-- the rows on the part of a subtask in a pending record
abbrev pub part_refusal : Parts → Record → SubtaskId → List ℕ → List ℕ → Option Refusal
part_refusal p r subtask fresh reused = first_some (
    is_foreign (Some r) subtask
    ∷ is_repeat (Some r) subtask
    ∷ named NameTaken (find (is_known_in p) fresh)
    ∷ named FileGone (find (λ f. not (is_present p.registry f)) reused)
    ∷ [])

-- whether the call finds its own refusal: it looks a record or a file up anyway
abbrev pub tests_itself : Call → Bool
tests_itself (Dispose id) = true
tests_itself (Show id) = true
tests_itself (Deleted file) = true
tests_itself (Undeleted file) = true
tests_itself call = false

-- why the call is refused before it is made
abbrev pub early_refusal : State → Call → Option Refusal
early_refusal m call = if tests_itself call then None else refusal m call

-- if the record is at this place, it is the pending one of this number
abbrev pub IsPendingAt : Parts → ℕ → Record → ℕ → Type 0
IsPendingAt p id r place = slice_get p.pending place ≡ Some r → pending_of (records_in p) id ≡ Some (with_pins p.registry r)

-- The place of the pending record that a call names. If there is none, no pending record has its number.
abbrev pub IsPlaceOf : Parts → ℕ → Option ℕ → Type 0
IsPlaceOf p id (Some place) = LiesAt id_of id p.pending place
IsPlaceOf p id None = pending_of (records_in p) id ≡ None

-- the same by the call: only an acknowledgement or a decline names a pending record
abbrev pub IsPlaceIn : Parts → Call → Option ℕ → Type 0
IsPlaceIn p (Ack now id subtask fresh reused) place = IsPlaceOf p id place
IsPlaceIn p (Decline now id subtask) place = IsPlaceOf p id place
IsPlaceIn p call place = place ≡ None

-- whether an accepted call always has an answer: it takes no memory, and was tested first
abbrev pub never_fails : Call → Bool
never_fails (Tick now) = false
never_fails (Savepoint now) = false
never_fails (Ack now id subtask fresh reused) = false
never_fails (Restore now target shape) = is_none shape
never_fails (Dispose id) = false
never_fails (Take most) = false
never_fails (Deleted file) = false
never_fails (Undeleted file) = false
never_fails (Show id) = false
never_fails (Trigger now) = false
never_fails call = true
