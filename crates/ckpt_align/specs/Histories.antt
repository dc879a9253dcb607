-- What a task does, and what its channels carry.
use Rattle.std.specs.Prelude.{ℕ, Bool, true, false, ◌&&◌, ◌==◌, List, [], ◌∷◌, ◌++◌, if◌then◌else◌, Option, Some, None, Result, Ok, Err}
use Rattle.ckpt_align.specs.declared.event.Event.{Event}
use Rattle.ckpt_align.specs.declared.event.Event.TheVariants as event
use Rattle.ckpt_align.specs.declared.event.Answer.{Answer}
use Rattle.ckpt_align.specs.declared.event.Answer.TheVariants.{Hold, Cut}
use Rattle.ckpt_align.specs.declared.event.Refusal.{Refusal}
use Rattle.ckpt_align.specs.Alignment.{Alignment}
use Rattle.ckpt_align.specs.Steps.{step}

-- What a channel carries, in its order. An element is named by a number, such as its place in what was ever sent.
pub data Item : Type 0 where
  Element : ℕ → Item
  Barrier : ℕ → Item
  End : Item

-- What a task does, one after the other.
pub data Action : Type 0 where
  -- It tells its aligner what is next on an input, and takes that if the answer says so.
  Reads : (input : ℕ) → (item : Item) → Action
  -- It tells its aligner that a record is given up.
  GivesUp : (id : ℕ) → Action
  -- It sends an element on an output.
  Sends : (output x : ℕ) → Action
  -- It ends: it sends that on each output, and does nothing more.
  Ends : Action

abbrev pub event_of : ℕ → Item → Event
event_of i (Element x) = event.Element i
event_of i (Barrier n) = event.Barrier i n
event_of i End = event.End i

-- what the aligner answers
abbrev pub answer_to : Alignment → ℕ → Item → Result Answer Refusal
answer_to a i item = (step a (event_of i item)).1

-- the aligner after an action
abbrev pub after : Alignment → Action → Alignment
after a (Reads i item) = (step a (event_of i item)).0
after a (GivesUp id) = (step a (event.GiveUp id)).0
after a (Sends output x) = a
after a Ends = a

-- and after a list of actions
abbrev pub replay : Alignment → List Action → Alignment
replay a [] = a
replay a (action ∷ actions) = replay (after a action) actions

-- An item leaves its channel unless it is held or refused. So an element leaves it exactly if the answer is Process.
abbrev pub is_taken : Result Answer Refusal → Bool
is_taken (Ok Hold) = false
is_taken (Ok answer) = true
is_taken (Err why) = false

-- what an action takes from an input
abbrev pub taken_by : ℕ → Alignment → Action → List Item
taken_by j a (Reads i item) = if (i == j) && is_taken (answer_to a i item) then item ∷ [] else []
taken_by j a (GivesUp id) = []
taken_by j a (Sends output x) = []
taken_by j a Ends = []

-- all that a task has taken from an input, in order
abbrev pub taken : ℕ → Alignment → List Action → List Item
taken j a [] = []
taken j a (action ∷ actions) = taken_by j a action ++ taken j (after a action) actions

abbrev pub elements : List Item → List ℕ
elements [] = []
elements (Element x ∷ items) = x ∷ elements items
elements (Barrier n ∷ items) = elements items
elements (End ∷ items) = elements items

-- the elements that a task has processed of an input, in order
abbrev pub processed : ℕ → Alignment → List Action → List ℕ
processed j a actions = elements (taken j a actions)

-- the elements of a channel that come before the barrier of a record, or before the end if that comes first
abbrev pub before : ℕ → List Item → List ℕ
before n [] = []
before n (Element x ∷ items) = x ∷ before n items
before n (Barrier m ∷ items) = if m == n then [] else before n items
before n (End ∷ items) = []

abbrev pub cut_as : Result Answer Refusal → Option ℕ
cut_as (Ok (Cut id)) = Some id
cut_as answer = None

-- the record that an action is the cut of
abbrev pub cut_by : Alignment → Action → Option ℕ
cut_by a (Reads i item) = cut_as (answer_to a i item)
cut_by a (GivesUp id) = cut_as (step a (event.GiveUp id)).1
cut_by a (Sends output x) = None
cut_by a Ends = None

abbrev pub barriers : Option ℕ → List Item
barriers None = []
barriers (Some id) = Barrier id ∷ []

-- What an action puts on an output. At the cut of a record that is its barrier, on each output.
abbrev pub sent_by : ℕ → Alignment → Action → List Item
sent_by c a (Reads i item) = barriers (cut_as (answer_to a i item))
sent_by c a (GivesUp id) = barriers (cut_by a (GivesUp id))
sent_by c a (Sends output x) = if output == c then Element x ∷ [] else []
sent_by c a Ends = End ∷ []

-- all that a task has put on an output, in order
abbrev pub sent : ℕ → Alignment → List Action → List Item
sent c a [] = []
sent c a (action ∷ actions) = sent_by c a action ++ sent c (after a action) actions

abbrev pub is_number : ℕ → Option ℕ → Bool
is_number n None = false
is_number n (Some m) = m == n

-- what a task did before its cut of a record, or before it ended if that came first
abbrev pub before_cut : ℕ → Alignment → List Action → List Action
before_cut n a [] = []
before_cut n a (Ends ∷ actions) = []
before_cut n a (action ∷ actions) = if is_number n (cut_by a action) then [] else action ∷ before_cut n (after a action) actions

-- whether it has cut the record
abbrev pub has_cut : ℕ → Alignment → List Action → Bool
has_cut n a [] = false
has_cut n a (Ends ∷ actions) = false
has_cut n a (action ∷ actions) = if is_number n (cut_by a action) then true else has_cut n (after a action) actions

-- whether it has ended
abbrev pub has_ended : List Action → Bool
has_ended [] = false
has_ended (Ends ∷ actions) = true
has_ended (action ∷ actions) = has_ended actions
