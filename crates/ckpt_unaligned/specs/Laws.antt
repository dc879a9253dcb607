-- Laws of unaligned barriers, over all lists of actions.
use Rattle.std.specs.Prelude.{◌≡◌, ℕ, ◌<◌, List, [], ◌∷◌, ◌++◌, map, Some}
use Rattle.ckpt_ids.specs.declared.subtask.SubtaskId.{SubtaskId}
use Rattle.ckpt_align.specs.Histories.{Item, Element, before, elements}
use Rattle.ckpt_align.specs.Laws.{Channel}
use Rattle.ckpt_unaligned.specs.Recording.{Recorder, opened}
use Rattle.ckpt_unaligned.specs.Histories.{Action, answer_to, before_snap, part_of, replay, sent, taken, whole_as}

-- When the answer to an action says that a record is whole, the task's part has of each input exactly the elements that come before
-- the record's barrier on it, and of an input that ended before that barrier all. `rest` is what the input carries behind what was
-- taken.
abbrev pub LocalPart : ℕ → List Action → Action → ℕ → ℕ → List Item → Type 0
LocalPart inputs actions action n j rest =
    let r : Recorder = opened inputs in
    whole_as (answer_to (replay r actions) action) ≡ Some n
    → j < inputs
    → part_of j inputs actions action ≡ before n (taken j r (actions ++ action ∷ []) ++ rest)

-- a task of a network: how many inputs it has, and what it did so far
pub record Task : Type 0 where
  pub inputs : ℕ
  pub actions : List Action

-- A network at some moment: the task of each name, the channels, and what each channel had to give first, since it was recorded
-- for the record from which the job began.
pub record Network : Type 0 where
  pub task : SubtaskId → Task
  pub channels : List Channel
  pub first : Channel → List ℕ

abbrev pub sent_on : Network → Channel → List Item
sent_on w c = let t : Task = w.task c.sender in map Element (w.first c) ++ sent c.output (opened t.inputs) t.actions

abbrev pub taken_from : Network → Channel → List Item
taken_from w c = let t : Task = w.task c.receiver in taken c.input (opened t.inputs) t.actions

-- what was sent and not taken yet is on the way, in its order
abbrev pub IsInOrder : Network → Channel → Type 0
IsInOrder w c = (on_the_way : List Item) × (sent_on w c ≡ taken_from w c ++ on_the_way)

-- where a task's part of a record became whole
pub record HasPart (n : ℕ) (t : Task) : Type 0 where
  pub earlier : List Action
  pub action : Action
  pub later : List Action
  pub are_its : t.actions ≡ earlier ++ action ∷ later
  pub is_whole : whole_as (answer_to (replay (opened t.inputs) earlier) action) ≡ Some n

-- the elements of a channel that its receiver's part of a record has
abbrev pub part_in : (n : ℕ) (w : Network) (c : Channel) → HasPart n (w.task c.receiver) → List ℕ
part_in n w c its = part_of c.input (w.task c.receiver).inputs its.earlier its.action

-- the elements that the sender of a channel sent before its snapshot for a record
abbrev pub sent_before : ℕ → Network → Channel → List ℕ
sent_before n w c = let t : Task = w.task c.sender in elements (sent c.output (opened t.inputs) (before_snap n (opened t.inputs) t.actions))

-- The parts of a record are consistent, with their channels: what a channel had to give first, and what its sender sent before its snapshot,
-- is what its receiver had taken before its own, and then what it recorded. None is lost, and none comes twice. Source: Chandy and Lamport 1985.
abbrev pub GlobalPart : ℕ → Network → Channel → Type 0
GlobalPart n w c =
    c.input < (w.task c.receiver).inputs
    → IsInOrder w c
    → (its : HasPart n (w.task c.receiver))
    → part_in n w c its ≡ w.first c ++ sent_before n w c
