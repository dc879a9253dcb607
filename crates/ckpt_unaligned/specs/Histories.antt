-- What a task does, what its channels carry, and what it keeps of them for a record.
use Rattle.std.specs.Prelude.{ℕ, Bool, true, false, ◌&&◌, ◌==◌, List, [], ◌∷◌, ◌++◌, if◌then◌else◌, Option, Some, None, Result, Ok, Err}
use Rattle.ckpt_align.specs.declared.event.Event.TheVariants as event
use Rattle.ckpt_align.specs.declared.event.Refusal.{Refusal}
use Rattle.ckpt_align.specs.Histories.{Item, Element, End, barriers, elements, event_of, is_number}
use Rattle.ckpt_unaligned.specs.declared.answer.Answer.{Answer}
use Rattle.ckpt_unaligned.specs.declared.answer.Answer.TheVariants.{Record, Hold, Nothing, Cut, Snap, Complete, Abandon}
use Rattle.ckpt_unaligned.specs.Recording.{Recorder, opened}
use Rattle.ckpt_unaligned.specs.Steps.{Stepped, overtake, step}

-- What a task does, one after the other.
pub data Action : Type 0 where
  -- It tells its recorder what is next on an input, and takes that if the answer says so.
  Reads : (input : ℕ) → (item : Item) → Action
  -- It tells it that a record overtakes.
  Overtakes : (id : ℕ) → Action
  -- It tells it that a record is given up.
  GivesUp : (id : ℕ) → Action
  -- It sends an element on an output.
  Sends : (output x : ℕ) → Action
  -- It ends: it sends that on each output, and does nothing more.
  Ends : Action

abbrev pub done : Recorder → Action → Stepped
done r (Reads i item) = step r (event_of i item)
done r (Overtakes n) = overtake r n
done r (GivesUp n) = step r (event.GiveUp n)
done r (Sends output x) = (r, Ok Nothing)
done r Ends = (r, Ok Nothing)

-- the recorder after an action, and its answer
abbrev pub after : Recorder → Action → Recorder
after r action = (done r action).0

abbrev pub answer_to : Recorder → Action → Result Answer Refusal
answer_to r action = (done r action).1

abbrev pub replay : Recorder → List Action → Recorder
replay r [] = r
replay r (action ∷ actions) = replay (after r action) actions

-- An item leaves its channel unless it is held or refused, or the answer ends an earlier record.
abbrev pub is_taken : Result Answer Refusal → Bool
is_taken (Ok Hold) = false
is_taken (Ok (Abandon id)) = false
is_taken (Ok answer) = true
is_taken (Err why) = false

abbrev pub taken_as : ℕ → ℕ → Item → Result Answer Refusal → List Item
taken_as j i item answer = if (i == j) && is_taken answer then item ∷ [] else []

-- what an action takes from an input
abbrev pub taken_by : ℕ → Recorder → Action → List Item
taken_by j r (Reads i item) = taken_as j i item (answer_to r (Reads i item))
taken_by j r action = []

abbrev pub taken : ℕ → Recorder → List Action → List Item
taken j r [] = []
taken j r (action ∷ actions) = taken_by j r action ++ taken j (after r action) actions

-- the record for which a task takes its snapshot
abbrev pub snap_as : Result Answer Refusal → Option ℕ
snap_as (Ok (Cut id)) = Some id
snap_as (Ok (Snap id)) = Some id
snap_as answer = None

-- the record whose part is whole
abbrev pub whole_as : Result Answer Refusal → Option ℕ
whole_as (Ok (Cut id)) = Some id
whole_as (Ok (Complete id)) = Some id
whole_as answer = None

-- What an action puts on an output. At the snapshot for a record that is its barrier, on each output.
abbrev pub sent_by : ℕ → Recorder → Action → List Item
sent_by c r (Sends output x) = if output == c then Element x ∷ [] else []
sent_by c r Ends = End ∷ []
sent_by c r action = barriers (snap_as (answer_to r action))

abbrev pub sent : ℕ → Recorder → List Action → List Item
sent c r [] = []
sent c r (action ∷ actions) = sent_by c r action ++ sent c (after r action) actions

-- what a task did before its snapshot for a record, or before it ended if that came first
abbrev pub before_snap : ℕ → Recorder → List Action → List Action
before_snap n r [] = []
before_snap n r (Ends ∷ actions) = []
before_snap n r (action ∷ actions) = if is_number n (snap_as (answer_to r action)) then [] else action ∷ before_snap n (after r action) actions

-- What a task has of an input: the elements that it took, those of them that its last snapshot has, and those that it recorded since.
pub record Kept : Type 0 where
  pub all : List ℕ
  pub in_snapshot : List ℕ
  pub recorded : List ℕ

abbrev pub nothing_yet : Kept
nothing_yet = record { all = []; in_snapshot = []; recorded = [] }

abbrev pub is_record : Result Answer Refusal → Bool
is_record (Ok Record) = true
is_record answer = false

abbrev pub is_snap : Result Answer Refusal → Bool
is_snap (Ok (Snap id)) = true
is_snap answer = false

abbrev pub kept_more : Kept → List ℕ → Result Answer Refusal → Kept
kept_more k xs answer = record { all = k.all ++ xs; in_snapshot = k.in_snapshot; recorded = k.recorded ++ (if is_record answer then xs else []) }

abbrev pub kept_by : ℕ → Recorder → Kept → Action → Kept
kept_by j r k (Reads i item) = kept_more k (elements (taken_by j r (Reads i item))) (answer_to r (Reads i item))
kept_by j r k (Overtakes n) = if is_snap (overtake r n).1 then record { all = k.all; in_snapshot = k.all; recorded = [] } else k
kept_by j r k action = k

abbrev pub kept : ℕ → Recorder → Kept → List Action → Kept
kept j r k [] = k
kept j r k (action ∷ actions) = kept j (after r action) (kept_by j r k action) actions

-- The elements of an input that are in a task's part of a record: at a cut all that it took; else those in the snapshot, and those
-- that were recorded.
abbrev pub part_as : Kept → Result Answer Refusal → List ℕ
part_as k (Ok (Complete id)) = k.in_snapshot ++ k.recorded
part_as k answer = k.all

abbrev pub part_of : ℕ → ℕ → List Action → Action → List ℕ
part_of j inputs actions action = part_as (kept j (opened inputs) nothing_yet actions) (answer_to (replay (opened inputs) actions) action)
