-- Laws of alignment, over all lists of actions.
use Rattle.std.specs.Prelude.{◌≡◌, ℕ, ◌<◌, ◌↔◌, true, false, List, [], ◌∷◌, ◌++◌, map, Some, ◌⊎◌, slice_get}
use Rattle.std.specs.List.{list_any}
use Rattle.ckpt_ids.specs.Ordered.{AreDistinct, IsIn}
use Rattle.ckpt_ids.specs.declared.subtask.SubtaskId.{SubtaskId}
use Rattle.ckpt_align.specs.declared.input.Input.TheVariants.{Open}
use Rattle.ckpt_align.specs.Alignment.{Alignment, opened, is_aligning, is_late, is_open}
use Rattle.ckpt_align.specs.Histories.{Item, Barrier, Action, Reads, replay, taken, elements, processed, before, cut_by, sent, before_cut, has_cut, has_ended}

-- When the answer to an action is the cut of a record, the elements processed so far of each input are exactly those
-- that come before the record's barrier on it, and of an input that ended before that barrier all. `rest` is what the
-- input carries behind what was taken. Source: Carbone et al. 2015, asynchronous barrier snapshotting.
abbrev pub LocalCut : ℕ → List Action → Action → ℕ → ℕ → List Item → Type 0
LocalCut inputs actions action n j rest =
    let a : Alignment = opened inputs in
    cut_by (replay a actions) action ≡ Some n
    → j < inputs
    → processed j a actions ≡ before n (taken j a (actions ++ action ∷ []) ++ rest)

-- each record is cut at most once, and the numbers of the records cut rise
abbrev pub CutsRise : ℕ → List Action → Action → List Action → Action → Type 0
CutsRise inputs actions first between second =
    let a : Alignment = opened inputs in
    (n m : ℕ)
    → cut_by (replay a actions) first ≡ Some n
    → cut_by (replay a (actions ++ first ∷ between)) second ≡ Some m
    → n < m

-- While an input is held, another one is open. So a task can always read on, and no cut is missed: once no input is
-- open, none is held.
abbrev pub GoesOn : ℕ → List Action → Type 0
GoesOn inputs actions =
    let a : Alignment = replay (opened inputs) actions in
    is_aligning a ≡ true → list_any is_open a.inputs ≡ true

-- the inputs that are open, each once
abbrev pub AreTheOpen : Alignment → List ℕ → Type 0
AreTheOpen a order = AreDistinct order × ((i : ℕ) → IsIn i order ↔ (slice_get a.inputs i ≡ Some Open))

-- If a record is not late and no smaller one is being aligned, and each open input delivers its barrier, in any order,
-- the last of them is the cut.
abbrev pub ComesToCut : ℕ → List Action → ℕ → ℕ → List ℕ → Type 0
ComesToCut inputs actions n last order =
    let a : Alignment = replay (opened inputs) actions in
    is_late a n ≡ false
    → (is_aligning a ≡ true → n ≡ a.latest)
    → AreTheOpen a (order ++ last ∷ [])
    → cut_by (replay a (map (λ i. Reads i (Barrier n)) order)) (Reads last (Barrier n)) ≡ Some n

-- a task of a network, which is a subtask of the job: how many inputs it has, and what it did so far
pub record Task : Type 0 where
  pub inputs : ℕ
  pub actions : List Action

-- a channel of a network: an output of one task that is an input of another
pub record Channel : Type 0 where
  pub sender : SubtaskId
  pub output : ℕ
  pub receiver : SubtaskId
  pub input : ℕ

-- a network at some moment: the task of each name, and the channels
pub record Network : Type 0 where
  pub task : SubtaskId → Task
  pub channels : List Channel

abbrev pub sent_on : Network → Channel → List Item
sent_on w c = let t : Task = w.task c.sender in sent c.output (opened t.inputs) t.actions

abbrev pub taken_from : Network → Channel → List Item
taken_from w c = let t : Task = w.task c.receiver in taken c.input (opened t.inputs) t.actions

-- what was sent and not taken yet is on the way, in its order: nothing was lost, doubled or overtaken
abbrev pub IsInOrder : Network → Channel → Type 0
IsInOrder w c = (on_the_way : List Item) × (sent_on w c ≡ taken_from w c ++ on_the_way)

-- the receiver has this input
abbrev pub IsConnected : Network → Channel → Type 0
IsConnected w c = c.input < (w.task c.receiver).inputs

abbrev pub HasCut : ℕ → Task → Type 0
HasCut n t = has_cut n (opened t.inputs) t.actions ≡ true

-- the elements that the sender of a channel sent before its cut of a record
abbrev pub sent_before_cut : ℕ → Network → Channel → List ℕ
sent_before_cut n w c = let t : Task = w.task c.sender in elements (sent c.output (opened t.inputs) (before_cut n (opened t.inputs) t.actions))

-- the elements that its receiver processed before its own cut
abbrev pub processed_before_cut : ℕ → Network → Channel → List ℕ
processed_before_cut n w c = let t : Task = w.task c.receiver in processed c.input (opened t.inputs) (before_cut n (opened t.inputs) t.actions)

-- the sender of a channel has cut a record, or has ended without it
abbrev pub HasCutOrEnded : ℕ → Task → Type 0
HasCutOrEnded n t = HasCut n t ⊎ (has_ended t.actions ≡ true)

-- The cuts of a record are consistent: on each channel the elements processed before the receiver's cut are exactly
-- those sent before the sender's. None is lost, none comes twice, and none has to be kept with the channel.
-- Source: Chandy and Lamport 1985, consistent cuts; Carbone et al. 2015.
abbrev pub IsConsistent : ℕ → Network → Type 0
IsConsistent n w = (c : Channel) → IsIn c w.channels → processed_before_cut n w c ≡ sent_before_cut n w c

-- If channels keep their order and each receiver has cut a record, the cuts of that record are consistent. Each sender
-- has then cut it too, or has ended.
abbrev pub GlobalCut : ℕ → Network → Type 0
GlobalCut n w =
    ((c : Channel) → IsIn c w.channels → IsConnected w c × IsInOrder w c × HasCut n (w.task c.receiver))
    → IsConsistent n w × ((c : Channel) → IsIn c w.channels → HasCutOrEnded n (w.task c.sender))
