-- What a sink holds back, and what it publishes.
use Rattle.std.specs.Prelude.{◌≡◌, ℕ, true, List, [], ◌∷◌, ◌++◌, map, Option, Some, None}
use Rattle.ckpt_align.specs.Alignment.{Alignment, opened}
use Rattle.ckpt_align.specs.Histories.{Action, after, cut_by, elements, has_cut, sent_by}
use Rattle.ckpt_once.specs.Sinks.{Transaction, above, contents, up_to}

pub record Held : Type 0 where
  -- the transactions that are sealed and not published, the oldest first
  pub waiting : List Transaction
  -- what was written since the last cut
  pub open_one : List ℕ

abbrev pub nothing : Held
nothing = record { waiting = []; open_one = [] }

-- what a sink does and is told
pub data Entry : Type 0 where
  Writes : ℕ → Entry
  Cuts : ℕ → Entry
  Completes : ℕ → Entry

abbrev pub after_entry : Held → Entry → Held
after_entry h (Writes x) = record { waiting = h.waiting; open_one = h.open_one ++ x ∷ [] }
after_entry h (Cuts id) = record { waiting = h.waiting ++ record { id = id; content = h.open_one } ∷ []; open_one = [] }
after_entry h (Completes id) = record { waiting = above id h.waiting; open_one = h.open_one }

abbrev pub after_entries : Held → List Entry → Held
after_entries h [] = h
after_entries h (entry ∷ entries) = after_entries (after_entry h entry) entries

-- what it publishes then
abbrev pub publishes : Held → Entry → List Transaction
publishes h (Writes x) = []
publishes h (Cuts id) = []
publishes h (Completes id) = up_to id h.waiting

abbrev pub all_published : Held → List Entry → List ℕ
all_published h [] = []
all_published h (entry ∷ entries) = contents (publishes h entry) ++ all_published (after_entry h entry) entries

-- what the task of a sink does, and the completed records that the sink is told, one after the other
pub data Moment : Type 0 where
  Acts : Action → Moment
  Told : ℕ → Moment

abbrev pub acts : List Moment → List Action
acts [] = []
acts (Acts action ∷ moments) = action ∷ acts moments
acts (Told n ∷ moments) = acts moments

abbrev pub completed : List Moment → List ℕ
completed [] = []
completed (Acts action ∷ moments) = completed moments
completed (Told n ∷ moments) = n ∷ completed moments

-- what its ledger is told of an action: at a cut its record, and otherwise what is sent on the sink's output
abbrev pub told_of : Option ℕ → List ℕ → List Entry
told_of None xs = map Writes xs
told_of (Some id) xs = Cuts id ∷ []

abbrev pub entries : ℕ → Alignment → List Moment → List Entry
entries o a [] = []
entries o a (Acts action ∷ moments) = told_of (cut_by a action) (elements (sent_by o a action)) ++ entries o (after a action) moments
entries o a (Told n ∷ moments) = Completes n ∷ entries o a moments

-- The sink is told of completed records that its task has cut. A record is completed only once each task has acknowledged it.
abbrev pub HaveBeenCut : ℕ → List Action → List Moment → Type 0
HaveBeenCut inputs done [] = Unit {0}
HaveBeenCut inputs done (Acts action ∷ moments) = HaveBeenCut inputs (done ++ action ∷ []) moments
HaveBeenCut inputs done (Told n ∷ moments) = (has_cut n (opened inputs) done ≡ true) × HaveBeenCut inputs done moments
