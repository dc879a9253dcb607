-- What every chronicle promises.
use Rattle.std.specs.Prelude.{◌≡◌, ℕ, ◌+◌, ◌≤◌, ◌⊎◌, ◌↔◌, true, false, List, [], ◌∷◌, ◌++◌, length, Option, Some, None}
use Rattle.std.specs.List.{range_with_len}
use Rattle.ckpt_ids.specs.{declared.ack.Acked.Acked, declared.call.Call.Call, declared.call.Call.TheVariants.Ack, declared.reply.Refusal.TheVariants.FileGone}
use Rattle.ckpt_ids.specs.{declared.subtask.SubtaskId.SubtaskId, Acknowledged.put_ack, Counting.one_if, Counting.times, Ordered.IsIn, Shapes.is_subtask}
use Rattle.ckpt_ids.specs.Records.{Record, is_present, uses}
use Rattle.ckpt_model.specs.State.{IsUnused, State, choice_of, chosen, files_of, in_outbox, is_checkpoint, record_of}
use Rattle.ckpt_model.specs.{Refusals.refusal, Histories.replay, Keeping.TakesNewest}
use Rattle.ckpt_model.specs.Laws.{AreCalls, IsNeverDisposed, NoneAgain, Part}
use Rattle.ckpt_model.specs.Laws.{accepted_by, ack_of, along, deleted_by, given_by, handed_by, id_of_choice, registered_by, times_of}
use Rattle.ckpt_terms.specs.{declared.call.FencedCall.FencedCall, declared.call.FencedCall.TheVariants.Make, Machines.core_in}
use Rattle.ckpt_terms.specs.declared.machine.Machine.TheVariants as machine
use Rattle.ckpt_terms.specs.Fencing.{Fenced, fenced_step, fenced_replay, may_be_deleted}
use Rattle.ckpt_terms.specs.FencedLaws.{IssuesOnce, given_in, is_taken_in}
use Rattle.ckpt_logged.specs.Events.{Event, IsWell, calls_named, events_replay}
use Rattle.ckpt_logged.specs.Chronicles.{Chronicle, calls_of}

-- From an opening or an image, with names or without.

-- a live done record has exactly one acknowledgement of each subtask of its shape, and none from any other
abbrev pub OneOfEach : State → Type 0
OneOfEach m = (r : Record) → IsIn r m.records → r.done ≡ true → (s : SubtaskId) → times_of s r.acks ≡ one_if (is_subtask r.shape s)

-- Each time that a file is registered, or present at the beginning, it is handed out once, or is present still.
abbrev pub IsBalanced : Chronicle → Type 0
IsBalanced c =
    let m : State = core_in c.begin in
    let n : State = core_in c.now in
    (f : ℕ)
    → times f (along registered_by m (calls_of c)) + one_if (is_present (uses m.records) f)
    ≡ times f (along handed_by m (calls_of c)) + one_if (is_present (uses n.records) f)

-- Each time that a file is registered, or present, waiting or fetched at the beginning, it was reported as deleted, or waits, or was
-- fetched, or is present still.
abbrev pub LeaksNone : Chronicle → Type 0
LeaksNone c =
    let m : State = core_in c.begin in
    let n : State = core_in c.now in
    (f : ℕ)
    → times f (along registered_by m (calls_of c)) + one_if (is_present (uses m.records) f) + times f (m.waiting ++ m.taken)
    ≡ times f (along deleted_by m (calls_of c)) + times f (n.waiting ++ n.taken) + one_if (is_present (uses n.records) f)

-- the acknowledgements of a record, if there is one
abbrev pub acks_in : Option Record → List Acked
acks_in None = []
acks_in (Some r) = r.acks

-- these acknowledgements, and further ones, each put in its place
abbrev pub put_all : List Acked → List Acked → List Acked
put_all acks [] = acks
put_all acks (a ∷ more) = put_all (put_ack a acks) more

-- A live record's acknowledgements are those that it had at the beginning, if it was there, and those accepted for its number since.
abbrev pub AreAcknowledged : Chronicle → Type 0
AreAcknowledged c =
    let m : State = core_in c.begin in
    (r : Record) → IsIn r (core_in c.now).records → r.acks ≡ put_all (acks_in (record_of m r.id)) (along (accepted_by r.id) m (calls_of c))

-- numbers are given from the next one on, each the one after the one before
abbrev pub NumbersRise : Chronicle → Type 0
NumbersRise c =
    let m : State = core_in c.begin in
    let given : List ℕ = along given_by m (calls_of c) in
    given ≡ range_with_len m.next (length given)

-- a savepoint that is done at some moment stays, unchanged, until an accepted Dispose of its number
abbrev pub SavepointsStay : Chronicle → Type 0
SavepointsStay c =
    (before after : List Call)
    → calls_of c ≡ before ++ after
    → let n : State = replay (core_in c.begin) before in
    (r : Record) → IsIn r n.records → r.done ≡ true → is_checkpoint r ≡ false → IsNeverDisposed r.id n after → IsIn r (core_in c.now).records

-- the record that the choice names is live and done, and its files are present
abbrev pub ChoiceStands : State → Type 0
ChoiceStands m =
    (id : ℕ)
    → id_of_choice (choice_of m) ≡ Some id
    → (r : Record)
    × (record_of m id ≡ Some r)
    × (r.done ≡ true)
    × ((f : ℕ) → IsIn f (files_of (Some r)) → is_present (uses m.records) f ≡ true)

-- An acknowledgement for a pending record that was triggered since the beginning, and that reuses only files of the choice at the trigger,
-- is never refused FileGone.
abbrev pub PinsHold : Chronicle → Type 0
PinsHold c =
    (before after : List Call) (call : Call) (id now : ℕ) (subtask : SubtaskId) (fresh reused : List ℕ) (f : ℕ)
    → calls_of c ≡ before ++ call ∷ after
    → let n : State = replay (core_in c.begin) before in
    given_by n call ≡ id ∷ []
    → ((g : ℕ) → IsIn g reused → IsIn g (files_of (chosen (choice_of n) n)))
    → refusal (core_in c.now) (Ack now id subtask fresh reused) ≡ Some (FileGone f)
    → ⊥

-- each file is in at most one of present, waiting and taken, and there once
abbrev pub AreInOnePlace : State → Type 0
AreInOnePlace m = (f : ℕ) → one_if (is_present (uses m.records) f) + times f (m.waiting ++ m.taken) ≤ 1

-- a registered file that no live record uses waits for deletion, or was fetched for it, or was reported as deleted
abbrev pub AreAccounted : Chronicle → Type 0
AreAccounted c =
    let m : State = core_in c.begin in
    let n : State = core_in c.now in
    (f : ℕ) → IsIn f (along registered_by m (calls_of c)) → IsUnused n f → in_outbox n f ≡ false → IsIn f (along deleted_by m (calls_of c))

-- If no deleted file is reported as new again, a file was handed out exactly if it was registered, or present at the beginning, and no
-- live record uses it.
abbrev pub AreHandedOut : Chronicle → Type 0
AreHandedOut c =
    let m : State = core_in c.begin in
    NoneAgain [] m (calls_of c)
    → (f : ℕ)
    → IsIn f (along handed_by m (calls_of c))
    ↔ ((IsIn f (along registered_by m (calls_of c)) ⊎ (is_present (uses m.records) f ≡ true)) × IsUnused (core_in c.now) f)

-- and no live record uses a file that was handed out by some moment
abbrev pub UsesNoMore : Chronicle → Type 0
UsesNoMore c =
    let m : State = core_in c.begin in
    (before after : List Call)
    → calls_of c ≡ before ++ after
    → NoneAgain [] m (calls_of c)
    → (f : ℕ) → IsIn f (along handed_by m before) → IsUnused (core_in c.now) f

-- What holds between any moment with names, after the events `before`, and now.

-- no live record uses a file that might be deleted then
abbrev pub AreDeletedSafely : Chronicle → Type 0
AreDeletedSafely c =
    (before after : List Event) (m : Fenced)
    → c.events ≡ before ++ after
    → events_replay c.begin before ≡ machine.Fenced m
    → (f : ℕ) → may_be_deleted m f ≡ true → IsUnused (core_in c.now) f

-- Each acknowledgement that was accepted for a pending record was made in the term of the call that triggered it.
abbrev pub HaveOneTerm : Chronicle → Type 0
HaveOneTerm c =
    (before after : List Event) (m : Fenced) (call : FencedCall) (between later : List FencedCall) (id term now : ℕ) (p : Part)
    → c.events ≡ before ++ after
    → events_replay c.begin before ≡ machine.Fenced m
    → calls_named after ≡ call ∷ (between ++ Make term (ack_of now id p) ∷ later)
    → let n : Fenced = fenced_replay (fenced_step m call).0 between in
    given_in (fenced_step m call).1 ≡ id ∷ []
    → is_taken_in (fenced_step n (Make term (ack_of now id p))).1 ≡ true
    → term ≡ m.term

-- The state now is that of the calls of the layer since, and none of these reports a file as new again that was deleted since.
abbrev pub AreIssuedOnce : Chronicle → Type 0
AreIssuedOnce c =
    (before after : List Event) (m : Fenced)
    → c.events ≡ before ++ after
    → events_replay c.begin before ≡ machine.Fenced m
    → (c.now ≡ machine.Fenced (fenced_replay m (calls_named after))) × IssuesOnce m (calls_named after)

-- With names from the beginning on, no deleted file is reported as new again: the premise of `AreHandedOut` and of `UsesNoMore` holds.
abbrev pub NeverAgain : Chronicle → Type 0
NeverAgain c = (m : Fenced) → c.begin ≡ machine.Fenced m → NoneAgain [] m.core (calls_of c)

-- What holds of each coordinator with its history.
pub record Promises (c : Chronicle) : Type 0 where
  -- it is the replay of what it was asked from where it began, and sound
  pub replayed : c.now ≡ events_replay c.begin c.events
  pub begin : IsWell c.begin
  pub sound : IsWell c.now
  -- the calls that reached the coordinator below the names are a history of it
  pub calls : AreCalls (calls_of c)
  pub core : core_in c.now ≡ replay (core_in c.begin) (calls_of c)
  -- from an opening or an image, with names or without
  pub exactly_one : OneOfEach (core_in c.now)
  pub acknowledgements : AreAcknowledged c
  pub numbers : NumbersRise c
  pub savepoints : SavepointsStay c
  pub choice : ChoiceStands (core_in c.now)
  pub latest : TakesNewest (core_in c.now)
  pub pinned : PinsHold c
  pub balance : IsBalanced c
  pub no_leak : LeaksNone c
  pub accounted : AreAccounted c
  pub outbox : AreInOnePlace (core_in c.now)
  pub handed : AreHandedOut c
  pub used_no_more : UsesNoMore c
  -- between any moment with names and now
  pub safe : AreDeletedSafely c
  pub one_term : HaveOneTerm c
  pub once : AreIssuedOnce c
  pub never_again : NeverAgain c
