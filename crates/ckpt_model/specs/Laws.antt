-- Laws of a coordinator: of two calls, and of every list of calls.
use Rattle.std.specs.Prelude.{◌≡◌, ℕ, ◌+◌, ◌<◌, ◌≤◌, Bool, true, false, not, ◌&&◌, ◌==◌, List, [], ◌∷◌, ◌++◌, filter, length, count_by, if◌then◌else◌, ◌↔◌, Option, Some, None, ⊤}
use Rattle.std.specs.Prelude as prelude
use Rattle.std.specs.List.{range_with_len}
use Rattle.ckpt_ids.specs.declared.limits.TheConstants.{MOMENTS_END, NUMBERS_END}
use Rattle.ckpt_ids.specs.declared.subtask.SubtaskId.{SubtaskId}
use Rattle.ckpt_ids.specs.declared.ack.Acked.{Acked}
use Rattle.ckpt_ids.specs.declared.call.Call.{Call}
use Rattle.ckpt_ids.specs.declared.call.Call.TheVariants.{Ack, Dispose, Deleted, Undeleted}
use Rattle.ckpt_ids.specs.declared.reply.Choice.{Choice}
use Rattle.ckpt_ids.specs.declared.reply.Choice.TheVariants as choice
use Rattle.ckpt_ids.specs.declared.reply.TickEnd.TheVariants as end
use Rattle.ckpt_ids.specs.declared.reply.Refusal.TheVariants.{FileGone}
use Rattle.ckpt_ids.specs.declared.reply.Reply.TheVariants as reply
use Rattle.ckpt_ids.specs.declared.reply.Answer.{Answer}
use Rattle.ckpt_ids.specs.declared.reply.Answer.TheVariants.{Done, Refused}
use Rattle.ckpt_ids.specs.Acknowledged.{acknowledges_before}
use Rattle.ckpt_ids.specs.Ascending.{ascending}
use Rattle.ckpt_ids.specs.Configuration.{IsWithinLimits}
use Rattle.ckpt_ids.specs.Ordered.{IsIn, in_order}
use Rattle.ckpt_ids.specs.Records.{Record, IsFull, uses, is_present}
use Rattle.ckpt_ids.specs.Shapes.{IsShape, same_subtask}
use Rattle.ckpt_model.specs.State.{State, Opening, opened, IsUnused, is_checkpoint, is_known, in_outbox, choice_of, record_of, chosen, files_of}
use Rattle.ckpt_model.specs.Refusals.{refusal}
use Rattle.ckpt_model.specs.Steps.{step}
use Rattle.ckpt_model.specs.Histories.{replay}
use Rattle.ckpt_model.specs.Soundness.{IsCall}
use Rattle.ckpt_ids.specs.Counting.{one_if, times}

-- the answer AckPending
abbrev pub is_ack_pending : Answer → Bool
is_ack_pending (Done (reply.AckPending missing)) = true
is_ack_pending answer = false

-- the answer AckPending or AckCompleted
abbrev pub is_ack_taken : Answer → Bool
is_ack_taken (Done (reply.AckPending missing)) = true
is_ack_taken (Done (reply.AckCompleted dropped released)) = true
is_ack_taken answer = false

-- no number is in both lists
abbrev pub ShareNone : List ℕ → List ℕ → Type 0
ShareNone xs ys = (f : ℕ) → IsIn f xs → IsIn f ys → ⊥

-- what one subtask acknowledges with
pub record Part : Type 0 where
  pub subtask : SubtaskId
  pub fresh : List ℕ
  pub reused : List ℕ

abbrev pub ack_of : ℕ → ℕ → Part → Call
ack_of now id p = Ack now id p.subtask p.fresh p.reused

-- Two acknowledgements of different subtasks of one record, one directly after the other, at one moment. Neither reuses
-- a fresh file of the other. If the first leaves the record pending and the second is accepted for it, they are
-- accepted in the other order too, with the same answers in turn and the same state after them. (That the first reuses
-- no fresh file of the second needs no premise: that file would be in use, and the second refused.) Source: Carbone et
-- al. 2015: the order in which the tasks acknowledge does not matter.
abbrev pub Exchange : State → ℕ → ℕ → Part → Part → Type 0
Exchange m now id p q =
    let first : Call = ack_of now id p in
    let second : Call = ack_of now id q in
    (p.subtask ≡ q.subtask → ⊥)
    → ShareNone p.fresh q.reused
    → is_ack_pending (step m first).1 ≡ true
    → is_ack_taken (step (step m first).0 second).1 ≡ true
    → ((step m second).1 ≡ (step m first).1) × (step (step m second).0 first ≡ step (step m first).0 second)

-- lists of calls

-- an opening of which a coordinator can be made
pub record CanOpen (o : Opening) : Type 0 where
  pub config : IsWithinLimits o.config
  pub shape : IsShape o.shape
  pub start : o.start < MOMENTS_END
  pub first_from : 1 ≤ o.first
  pub first_to : o.first < NUMBERS_END

abbrev pub AreCalls : List Call → Type 0
AreCalls [] = ⊤
AreCalls (call ∷ calls) = IsCall call × AreCalls calls

-- what each call of a list gives, all in one list; `by` reads the state before the call
abbrev pub along : {X : Type 0} → (State → Call → List X) → State → List Call → List X
along by m [] = []
along by m (call ∷ calls) = by m call ++ along by (step m call).0 calls

-- The files that a call registers: of an acknowledgement that is accepted for a pending record the fresh ones, of a late
-- one those of them that were not known before it.
abbrev pub registered_as : Answer → List ℕ → List ℕ → List ℕ
registered_as (Done (reply.AckPending missing)) fresh unknown = fresh
registered_as (Done (reply.AckCompleted dropped released)) fresh unknown = fresh
registered_as (Done (reply.AckLate handed)) fresh unknown = unknown
registered_as answer fresh unknown = []

abbrev pub registered_by : State → Call → List ℕ
registered_by m (Ack now id subtask fresh reused) = registered_as (step m (Ack now id subtask fresh reused)).1 fresh (filter (λ f. not (is_known m f)) fresh)
registered_by m call = []

-- the files that a call hands out: what it puts at the end of waiting; an Undeleted puts back what was handed out before
abbrev pub handed_by : State → Call → List ℕ
handed_by m (Undeleted file) = []
handed_by m call = prelude.drop (length m.waiting) (step m call).0.waiting

-- each time that a file is registered it is handed out once, or is present still
abbrev pub Balance : Opening → List Call → Type 0
Balance o calls =
    let m : State = replay (opened o) calls in
    (f : ℕ) → times f (along registered_by (opened o) calls) ≡ times f (along handed_by (opened o) calls) + one_if (is_present (uses m.records) f)

-- the files of accepted Deleted calls
abbrev pub deleted_as : Answer → List ℕ
deleted_as (Done (reply.Deleted file)) = file ∷ []
deleted_as answer = []

abbrev pub deleted_by : State → Call → List ℕ
deleted_by m (Deleted file) = deleted_as (step m (Deleted file)).1
deleted_by m call = []

-- the fresh files of an acknowledgement that is accepted for a pending record
abbrev pub new_by : State → Call → List ℕ
new_by m (Ack now id subtask fresh reused) = if is_ack_taken (step m (Ack now id subtask fresh reused)).1 then fresh else []
new_by m call = []

-- no deleted file is reported as new again; `gone` were deleted before
abbrev pub NoneAgain : List ℕ → State → List Call → Type 0
NoneAgain gone m [] = ⊤
NoneAgain gone m (call ∷ calls) = ShareNone gone (new_by m call) × NoneAgain (gone ++ deleted_by m call) (step m call).0 calls

-- if no deleted file is reported as new again, a file was handed out exactly if it was registered and no live record
-- uses it
abbrev pub Handed : Opening → List Call → Type 0
Handed o calls =
    let m : State = replay (opened o) calls in
    NoneAgain [] (opened o) calls
    → (f : ℕ) → IsIn f (along handed_by (opened o) calls) ↔ (IsIn f (along registered_by (opened o) calls) × IsUnused m f)

-- a registered file that no live record uses waits for deletion, or was fetched for it, or was reported as deleted
abbrev pub Accounted : Opening → List Call → Type 0
Accounted o calls =
    let m : State = replay (opened o) calls in
    (f : ℕ) → IsIn f (along registered_by (opened o) calls) → IsUnused m f → in_outbox m f ≡ false → IsIn f (along deleted_by (opened o) calls)

-- Each file was handed out as often as it was reported as deleted, and once more if it waits for deletion or was fetched for it.
abbrev pub Outgoing : Opening → List Call → Type 0
Outgoing o calls =
    let m : State = replay (opened o) calls in
    (f : ℕ) → times f (along handed_by (opened o) calls) ≡ times f (along deleted_by (opened o) calls) + times f (m.waiting ++ m.taken)

-- And so with those that were registered: each time, it was reported as deleted, or waits, or was fetched, or is present still.
abbrev pub NoneLeaks : Opening → List Call → Type 0
NoneLeaks o calls =
    let m : State = replay (opened o) calls in
    (f : ℕ) → times f (along registered_by (opened o) calls) ≡ times f (along deleted_by (opened o) calls) + times f (m.waiting ++ m.taken) + one_if (is_present (uses m.records) f)

-- no live record uses a file that was handed out, neither then nor later, if no deleted file is reported as new again (it follows
-- from `Handed` of all these calls, and says for readers what deletion risks)
abbrev pub UsedNoMore : Opening → List Call → List Call → Type 0
UsedNoMore o before calls =
    let m : State = replay (opened o) (before ++ calls) in
    NoneAgain [] (opened o) (before ++ calls) → (f : ℕ) → IsIn f (along handed_by (opened o) before) → IsUnused m f

-- each file is in at most one of present, waiting and taken, and there once
abbrev pub Outbox : Opening → List Call → Type 0
Outbox o calls =
    let m : State = replay (opened o) calls in
    (f : ℕ) → one_if (is_present (uses m.records) f) + times f (m.waiting ++ m.taken) ≤ 1

-- the acknowledgements of a number that a call adds to its record
abbrev pub accepted_by : ℕ → State → Call → List Acked
accepted_by id m (Ack now its_id subtask fresh reused) =
    let is_taken : Bool = is_ack_taken (step m (Ack now its_id subtask fresh reused)).1 in
    if (its_id == id) && is_taken then record { subtask = subtask; files = ascending (fresh ++ reused) } ∷ [] else []
accepted_by id m call = []

-- how many of these acknowledgements a subtask made
abbrev pub times_of : SubtaskId → List Acked → ℕ
times_of s acks = count_by (λ a. same_subtask s a.subtask) acks

-- a live record's acknowledgements are exactly the accepted ones of its number, by subtask; a done one has one of each subtask
abbrev pub Acknowledgements : Opening → List Call → Type 0
Acknowledgements o calls =
    let m : State = replay (opened o) calls in
    (r : Record) → IsIn r m.records → (r.acks ≡ in_order acknowledges_before (along (accepted_by r.id) (opened o) calls)) × (r.done ≡ true → IsFull r)

-- the number that a call gives
abbrev pub given_as : Answer → List ℕ
given_as (Done (reply.Ticked expired (end.Triggered id))) = id ∷ []
given_as (Done (reply.SavepointTriggered id)) = id ∷ []
given_as answer = []

abbrev pub given_by : State → Call → List ℕ
given_by m call = given_as (step m call).1

-- numbers are given from the first on, each the one after the one before
abbrev pub Numbers : Opening → List Call → Type 0
Numbers o calls = along given_by (opened o) calls ≡ range_with_len o.first (length (along given_by (opened o) calls))

-- an accepted Dispose of this number
abbrev pub is_disposed_by : ℕ → State → Call → Bool
is_disposed_by id m (Dispose its_id) = (its_id == id) && elim (step m (Dispose its_id)).1 [ Done reply ↦ true | Refused why ↦ false ]
is_disposed_by id m call = false

abbrev pub IsNeverDisposed : ℕ → State → List Call → Type 0
IsNeverDisposed id m [] = ⊤
IsNeverDisposed id m (call ∷ calls) = (is_disposed_by id m call ≡ false) × IsNeverDisposed id (step m call).0 calls

-- a done savepoint stays, unchanged, until an accepted Dispose of its number; `before` are the calls after which it is
-- there
abbrev pub Savepoints : Opening → List Call → List Call → Type 0
Savepoints o before calls =
    let m : State = replay (opened o) before in
    (r : Record) → IsIn r m.records → r.done ≡ true → is_checkpoint r ≡ false → IsNeverDisposed r.id m calls → IsIn r (replay m calls).records

-- the number of the record that a choice names
abbrev pub id_of_choice : Choice → Option ℕ
id_of_choice (choice.Checkpoint id) = Some id
id_of_choice (choice.Savepoint id) = Some id
id_of_choice choice.Fresh = None

-- the record that the choice names is live and done, and its files are present
abbrev pub ChoiceIsLive : Opening → List Call → Type 0
ChoiceIsLive o calls =
    let m : State = replay (opened o) calls in
    (id : ℕ)
    → id_of_choice (choice_of m) ≡ Some id
    → (r : Record)
    × (record_of m id ≡ Some r)
    × (r.done ≡ true)
    × ((f : ℕ) → IsIn f (files_of (Some r)) → is_present (uses m.records) f ≡ true)

-- An acknowledgement for a pending record that reuses only files of the choice at that record's trigger is never refused
-- FileGone. `call` triggers the record, after `before`; `calls` come after it.
abbrev pub Pinned : Opening → List Call → Call → List Call → Type 0
Pinned o before call calls =
    let m : State = replay (opened o) before in
    (id now : ℕ) (subtask : SubtaskId) (fresh reused : List ℕ) (f : ℕ)
    → given_by m call ≡ id ∷ []
    → ((g : ℕ) → IsIn g reused → IsIn g (files_of (chosen (choice_of m) m)))
    → refusal (replay (step m call).0 calls) (Ack now id subtask fresh reused) ≡ Some (FileGone f)
    → ⊥

-- for every call that triggers the record
abbrev pub PinsStay : Type 0
PinsStay =
    (o : Opening) (before : List Call) (call : Call) (calls : List Call)
    → CanOpen o
    → AreCalls before
    → IsCall call
    → AreCalls calls
    → Pinned o before call calls
