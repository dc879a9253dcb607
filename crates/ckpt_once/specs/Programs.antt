-- What a task computes. Lists of moves and of turns have the newest first; lists of elements and actions the oldest.
use Rattle.std.specs.Prelude.{ℕ, ◌==◌, List, [], ◌∷◌, ◌++◌, if◌then◌else◌, Option, Some, None}
use Rattle.ckpt_align.specs.Alignment.{Alignment}
use Rattle.ckpt_align.specs.Histories.{Item, Element, Barrier, End, Action, Reads, GivesUp, Sends, Ends, replay, answer_to, is_taken}

-- What a task does, without barriers, records and failures.
pub data Move : Type 0 where
  -- It takes an element from an input.
  Takes : (input x : ℕ) → Move
  -- A source makes a step of its own, such as reading the next element of its log.
  Draws : Move

-- an element that is put on an output
pub record Emitted : Type 0 where
  pub output : ℕ
  pub element : ℕ

-- A task is deterministic: its state and its next move decide its new state, and what it emits. States are named by
-- numbers, as elements are. A source's state has its offset; from the same offset it reads the same elements again.
pub record Program : Type 0 where
  pub start : ℕ
  pub next : (state : ℕ) → (move : Move) → ℕ
  pub emits : (state : ℕ) → (move : Move) → List Emitted

-- the state that moves lead to
abbrev pub state : Program → ℕ → List Move → ℕ
state p s [] = s
state p s (move ∷ moves) = p.next (state p s moves) move

-- all that they emit, in order
abbrev pub emitted : Program → ℕ → List Move → List Emitted
emitted p s [] = []
emitted p s (move ∷ moves) = emitted p s moves ++ p.emits (state p s moves) move

-- the elements that are put on one output
abbrev pub on_output : ℕ → List Emitted → List ℕ
on_output c [] = []
on_output c (one ∷ ones) = if one.output == c then one.element ∷ on_output c ones else on_output c ones

-- the elements that moves take from one input, in order
abbrev pub from_input : ℕ → List Move → List ℕ
from_input j [] = []
from_input j (Takes i x ∷ moves) = from_input j moves ++ (if i == j then x ∷ [] else [])
from_input j (Draws ∷ moves) = from_input j moves

-- What a task does in an engine that aligns barriers, one turn after the other.
pub data Turn : Type 0 where
  -- It tells its aligner what is next on an input. If that is an element, and the answer lets it, it takes that.
  Offered : (input : ℕ) → (item : Item) → Turn
  -- It tells its aligner that a record is given up.
  GivenUp : (id : ℕ) → Turn
  -- A source makes a step of its own.
  Drawn : Turn
  -- It ends.
  Ended : Turn

-- what its aligner is told
abbrev pub told : Turn → List Action
told (Offered i item) = Reads i item ∷ []
told (GivenUp id) = GivesUp id ∷ []
told Drawn = []
told Ended = Ends ∷ []

-- the move that a turn makes
abbrev pub move_in : Alignment → Turn → Option Move
move_in a (Offered i (Element x)) = if is_taken (answer_to a i (Element x)) then Some (Takes i x) else None
move_in a (Offered i (Barrier n)) = None
move_in a (Offered i End) = None
move_in a (GivenUp id) = None
move_in a Drawn = Some Draws
move_in a Ended = None

abbrev pub with_one : {X : Type 0} → Option X → List X → List X
with_one None xs = xs
with_one (Some x) xs = x ∷ xs

-- the aligner after turns
abbrev pub aligned : Alignment → List Turn → Alignment
aligned a [] = a
aligned a (turn ∷ turns) = replay (aligned a turns) (told turn)

-- the moves that turns make
abbrev pub moves_in : Alignment → List Turn → List Move
moves_in a [] = []
moves_in a (turn ∷ turns) = with_one (move_in (aligned a turns) turn) (moves_in a turns)

abbrev pub emitted_by : Program → ℕ → Option Move → List Emitted
emitted_by p s None = []
emitted_by p s (Some move) = p.emits s move

abbrev pub sendings : List Emitted → List Action
sendings [] = []
sendings (one ∷ ones) = Sends one.output one.element ∷ sendings ones

-- a turn as the actions of `ckpt_align`: what the aligner is told, then the elements that are sent
abbrev pub acts : Program → ℕ → Alignment → Turn → List Action
acts p s a turn = told turn ++ sendings (emitted_by p s (move_in a turn))

-- and all turns
abbrev pub actions : Program → ℕ → Alignment → List Turn → List Action
actions p s a [] = []
actions p s a (turn ∷ turns) = actions p s a turns ++ acts p (state p s (moves_in a turns)) (aligned a turns) turn
