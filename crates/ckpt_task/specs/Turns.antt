-- One turn of a task, in the words of `ckpt_once`.
use Rattle.std.specs.Prelude.{◌≡◌, ℕ, Bool, true, false, List, [], ◌∷◌, ◌⊎◌, map, Option, Some, None, Result, Ok, Err}
use Rattle.ckpt_align.specs.{Alignment.Alignment, declared.event.Answer.Answer, declared.event.Refusal.Refusal, Steps.step}
use Rattle.ckpt_align.specs.Histories.{Item, GivesUp, answer_to, cut_as, cut_by, sent, taken}
use Rattle.ckpt_align.specs.Histories as item
use Rattle.ckpt_align.specs.declared.event.Answer.TheVariants as answer
use Rattle.ckpt_align.specs.declared.event.Event.TheVariants as event
use Rattle.ckpt_once.specs.Programs.{Emitted, Program, Turn, Offered, GivenUp, Drawn, Ended, acts, aligned, moves_in, on_output, state}
use Rattle.ckpt_once.specs.Sinks.{Transaction}
use Rattle.ckpt_task.specs.{declared.turn.Next.Next, declared.turn.Outcome.Outcome, declared.turn.TurnFault.TurnFault, declared.turn.TurnFault.TheVariants.Refused, Saving.Saved}
use Rattle.ckpt_task.specs.declared.turn.Next.TheVariants as next
use Rattle.ckpt_task.specs.declared.turn.Outcome.TheVariants.{Moved, Held, Nothing, Cut, Unsaved, Abandoned}

-- a task at some moment: the number of its state, and its aligner
pub record At : Type 0 where
  pub state : ℕ
  pub alignment : Alignment

-- what is next for the code is this turn
abbrev pub as_turn : Next → Turn
as_turn (next.Element i x) = Offered i (item.Element x)
as_turn (next.Barrier i n) = Offered i (item.Barrier n)
as_turn (next.End i) = Offered i item.End
as_turn (next.GiveUp n) = GivenUp n
as_turn next.Draw = Drawn

-- an element is next
abbrev pub offers : ℕ → ℕ → Turn
offers i x = Offered i (item.Element x)

-- the task after a turn
abbrev pub turned : Program → At → Turn → At
turned p m turn = record { state = state p m.state (moves_in m.alignment (turn ∷ [])); alignment = aligned m.alignment (turn ∷ []) }

-- what a turn puts on an output, and what it takes from an input
abbrev pub puts : Program → At → Turn → ℕ → List Item
puts p m turn c = sent c m.alignment (acts p m.state m.alignment turn)

abbrev pub takes : Program → At → Turn → ℕ → List Item
takes p m turn j = taken j m.alignment (acts p m.state m.alignment turn)

-- what the aligner answers, if it is asked
abbrev pub answer_in : Alignment → Turn → Option (Result Answer Refusal)
answer_in a (Offered i item) = Some (answer_to a i item)
answer_in a (GivenUp id) = Some (step a (event.GiveUp id)).1
answer_in a Drawn = None
answer_in a Ended = None

-- the record that a turn is the cut of
abbrev pub cut_of : Alignment → Turn → Option ℕ
cut_of a (Offered i item) = cut_as (answer_to a i item)
cut_of a (GivenUp id) = cut_by a (GivesUp id)
cut_of a Drawn = None
cut_of a Ended = None

-- the record that it gives up
abbrev pub abandoned_as : Option (Result Answer Refusal) → Option ℕ
abandoned_as (Some (Ok (answer.Abandon id))) = Some id
abandoned_as other = None

-- it leaves the element on its channel
abbrev pub is_left : Option (Result Answer Refusal) → Bool
is_left (Some (Ok answer.Hold)) = true
is_left other = false

-- why the aligner refuses it
abbrev pub refusal_as : Option (Result Answer Refusal) → Option Refusal
refusal_as (Some (Err why)) = Some why
refusal_as other = None

-- THE SAME, AS THE CODE TELLS IT

abbrev pub emitted_in : Outcome → List Emitted
emitted_in (Moved ones) = ones.items
emitted_in other = []

abbrev pub cut_in : Outcome → Option ℕ
cut_in (Cut cut) = Some cut
cut_in (Unsaved id) = Some id
cut_in other = None

abbrev pub abandoned_in : Outcome → Option ℕ
abandoned_in (Abandoned id) = Some id
abandoned_in other = None

abbrev pub is_held : Outcome → Bool
is_held Held = true
is_held other = false

-- what the engine is told to put on an output
abbrev pub put_on : ℕ → Outcome → List Item
put_on c (Moved ones) = map item.Element (on_output c ones.items)
put_on c (Cut cut) = item.Barrier cut ∷ []
put_on c (Unsaved id) = item.Barrier id ∷ []
put_on c other = []

-- What is saved: at a cut the state before it, with what the ledger of a sink holds back. Only then has the engine a
-- `Cut`, by which it acknowledges.
abbrev pub IsSaved : Outcome → ℕ → List Transaction → List Saved → List Saved → Type 0
IsSaved (Cut cut) s waiting before now = now ≡ record { id = cut; state = s; waiting = waiting } ∷ before
IsSaved (Unsaved id) s waiting before now = (now ≡ before) ⊎ (now ≡ record { id = id; state = s; waiting = waiting } ∷ before)
IsSaved other s waiting before now = now ≡ before

abbrev pub is_unsaved : Outcome → Bool
is_unsaved (Unsaved id) = true
is_unsaved other = false

-- the record whose snapshot was refused
abbrev pub refusals_of : Outcome → List ℕ
refusals_of (Unsaved id) = id ∷ []
refusals_of other = []

-- the outcome of a turn, once the snapshot of its cut was saved, or was not
abbrev pub IsToldAs : Outcome → Outcome → Type 0
IsToldAs (Cut n) now = (now ≡ Cut n) ⊎ (now ≡ Unsaved n)
IsToldAs other now = now ≡ other

abbrev pub refusal_in : {X : Type 0} → Result X TurnFault → Option Refusal
refusal_in (Err (Refused why)) = Some why
refusal_in other = None

-- what the engine is told of an answer to a barrier or an end, or to a record that is given up
abbrev pub told_as : Result Answer Refusal → Result Outcome TurnFault
told_as (Ok answer.Hold) = Ok Held
told_as (Ok (answer.Cut id)) = Ok (Cut id)
told_as (Ok (answer.Abandon id)) = Ok (Abandoned id)
told_as (Ok answer) = Ok Nothing
told_as (Err why) = Err (Refused why)
