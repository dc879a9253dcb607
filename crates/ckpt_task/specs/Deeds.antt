-- What a task did with its channels, and what it told the coordinator. Lists of deeds have the newest first.
use Rattle.std.specs.Prelude.{◌≡◌, ◌⊎◌, ℕ, ◌==◌, List, [], ◌∷◌, ◌++◌, if◌then◌else◌, Option, Some, None}
use Rattle.ckpt_align.specs.Histories.{Item}
use Rattle.ckpt_align.specs.Histories as item
use Rattle.ckpt_once.specs.Programs.{Emitted, Turn, Offered}
use Rattle.ckpt_task.specs.{declared.deed.Deed.Deed, declared.turn.Next.Next, declared.turn.Outcome.Outcome, Turns.as_turn}
use Rattle.ckpt_task.specs.declared.deed.Deed.TheVariants.{Came, Took, Sent, SentBarrier, SentEnd, Acknowledged, Declined}
use Rattle.ckpt_task.specs.declared.turn.Outcome.TheVariants as outcome

abbrev pub as_came : Option Next → List Deed
as_came None = []
as_came (Some next) = Came next ∷ []

-- after a fault a deed was done or not, or a snapshot saved
abbrev pub IsUndone : {X : Type 0} → X → List X → List X → Type 0
IsUndone deed before now = (now ≡ before) ⊎ (now ≡ deed ∷ before)

-- what came, as turns
abbrev pub came_in : List Deed → List Turn
came_in [] = []
came_in (Came next ∷ deeds) = as_turn next ∷ came_in deeds
came_in (deed ∷ deeds) = came_in deeds

-- what came last, if it was on this input
abbrev pub last_on : ℕ → List Turn → List Item
last_on j [] = []
last_on j (Offered i item ∷ turns) = if i == j then item ∷ [] else []
last_on j (turn ∷ turns) = []

-- what was taken from an input, the oldest first
abbrev pub taken_in : ℕ → List Deed → List Item
taken_in j [] = []
taken_in j (Took ∷ deeds) = taken_in j deeds ++ last_on j (came_in deeds)
taken_in j (deed ∷ deeds) = taken_in j deeds

-- what was put on an output, the oldest first
abbrev pub sent_in : ℕ → List Deed → List Item
sent_in c [] = []
sent_in c (Sent o x ∷ deeds) = sent_in c deeds ++ (if o == c then item.Element x ∷ [] else [])
sent_in c (SentBarrier n ∷ deeds) = sent_in c deeds ++ item.Barrier n ∷ []
sent_in c (SentEnd ∷ deeds) = sent_in c deeds ++ item.End ∷ []
sent_in c (deed ∷ deeds) = sent_in c deeds

-- what the coordinator was told
pub data Word : Type 0 where
  Acknowledges : ℕ → Word
  Declines : ℕ → Word

abbrev pub told_in : List Deed → List Word
told_in [] = []
told_in (Acknowledged n ∷ deeds) = Acknowledges n ∷ told_in deeds
told_in (Declined n ∷ deeds) = Declines n ∷ told_in deeds
told_in (deed ∷ deeds) = told_in deeds

-- WHAT IS DONE AFTER A TURN

abbrev pub after_sends : List Emitted → List Deed → List Deed
after_sends [] deeds = deeds
after_sends (one ∷ ones) deeds = after_sends ones (Sent one.output one.element ∷ deeds)

-- An element leaves its channel once it is processed, and the barrier goes on the outputs before the record is
-- acknowledged.
abbrev pub deeds_after : Outcome → List Deed → List Deed
deeds_after (outcome.Moved ones) deeds = after_sends ones.items (Took ∷ deeds)
deeds_after outcome.Held deeds = deeds
deeds_after outcome.Nothing deeds = Took ∷ deeds
deeds_after (outcome.Cut n) deeds = Acknowledged n ∷ SentBarrier n ∷ Took ∷ deeds
deeds_after (outcome.Unsaved n) deeds = Declined n ∷ SentBarrier n ∷ Took ∷ deeds
deeds_after (outcome.Abandoned n) deeds = Declined n ∷ Took ∷ deeds

abbrev pub words_of : Outcome → List Word
words_of (outcome.Cut n) = Acknowledges n ∷ []
words_of (outcome.Unsaved n) = Declines n ∷ []
words_of (outcome.Abandoned n) = Declines n ∷ []
words_of other = []

-- A FAULT

-- Some of all these deeds are left. What came was taken.
pub record IsUnfinished (now all : List Deed) : Type 0 where
  pub left : List Deed
  pub is_left : all ≡ left ++ now
  pub came : came_in now ≡ came_in all
  pub took : (j : ℕ) → taken_in j now ≡ taken_in j all

-- what a fault let be done of all that is done after a turn: nothing, or some, the first of it first
abbrev pub IsPart : List Deed → List Deed → List Deed → Type 0
IsPart before now all = (now ≡ before) ⊎ IsUnfinished now all
