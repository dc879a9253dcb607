-- At least once: tasks that do not hold.
use Rattle.std.specs.Prelude.{◌≡◌, ℕ, ◌<◌, Bool, true, false, ◌&&◌, ◌==◌, List, [], ◌∷◌, ◌++◌, if◌then◌else◌, Some, Result, Ok, Err}
use Rattle.ckpt_ids.specs.{declared.call.Call.Call, Ordered.IsIn, Records.Record, Shapes.subtasks}
use Rattle.ckpt_align.specs.{Alignment.Alignment, Alignment.opened, declared.event.Answer.Answer, declared.event.Refusal.Refusal}
use Rattle.ckpt_align.specs.Histories.{Item, Element, Action, Reads, after, answer_to, before, before_cut, cut_by, elements, replay, taken_by}
use Rattle.ckpt_align.specs.Laws.{Channel, HasCut, IsConnected, Network, Task, sent_before_cut, sent_on}
use Rattle.ckpt_cuts.specs.Laws.{AcknowledgesCuts}
use Rattle.ckpt_model.specs.State.{Opening, State}
use Rattle.ckpt_model.specs.State as model
use Rattle.ckpt_model.specs.Histories as history
use Rattle.ckpt_once.specs.Jobs.{IsPrefix}

abbrev pub is_answer : Result Answer Refusal → Bool
is_answer (Ok answer) = true
is_answer (Err why) = false

-- A task that does not hold takes an element unless it is refused, also one that its aligner would hold. All else it
-- takes as its aligner says.
abbrev pub let_by : ℕ → Alignment → Action → List Item
let_by j a (Reads i (Element x)) = if (i == j) && is_answer (answer_to a i (Element x)) then Element x ∷ [] else []
let_by j a action = taken_by j a action

abbrev pub let_through : ℕ → Alignment → List Action → List Item
let_through j a [] = []
let_through j a (action ∷ actions) = let_by j a action ++ let_through j (after a action) actions

-- At the cut of a record the elements before its barrier have been processed, in order. Some behind it may have been, too.
-- `rest` is what the input carries behind what was taken.
abbrev pub LosesNone : ℕ → List Action → Action → ℕ → ℕ → List Item → Type 0
LosesNone inputs actions action n j rest =
    let a : Alignment = opened inputs in
    cut_by (replay a actions) action ≡ Some n
    → j < inputs
    → IsPrefix (before n (let_through j a (actions ++ action ∷ []) ++ rest)) (elements (let_through j a actions))

abbrev pub let_from : Network → Channel → List Item
let_from w c = let t : Task = w.task c.receiver in let_through c.input (opened t.inputs) t.actions

-- the elements that the receiver of a channel processed before its cut
abbrev pub let_before_cut : ℕ → Network → Channel → List ℕ
let_before_cut n w c = let t : Task = w.task c.receiver in elements (let_through c.input (opened t.inputs) (before_cut n (opened t.inputs) t.actions))

-- what was sent and not taken yet is on the way, in its order
abbrev pub IsInOrder : Network → Channel → Type 0
IsInOrder w c = (on_the_way : List Item) × (sent_on w c ≡ let_from w c ++ on_the_way)

-- each element that was sent before the sender's cut was processed before the receiver's, in order
abbrev pub LosesNoneBetween : ℕ → Network → Channel → Type 0
LosesNoneBetween n w c = IsPrefix (sent_before_cut n w c) (let_before_cut n w c)

abbrev pub AtLeastOnce : ℕ → Network → Type 0
AtLeastOnce n w =
    ((c : Channel) → IsIn c w.channels → IsConnected w c × IsInOrder w c × HasCut n (w.task c.receiver))
    → (c : Channel)
    → IsIn c w.channels
    → LosesNoneBetween n w c

-- a live completed record, on the premises of `consistent`
abbrev pub DoneLosesNone : Opening → List Call → Network → Type 0
DoneLosesNone o calls w =
    let m : State = history.replay (model.opened o) calls in
    (r : Record)
    → IsIn r m.records
    → r.done ≡ true
    → ((c : Channel) → IsIn c w.channels → IsIn c.receiver (subtasks r.shape) × IsConnected w c × IsInOrder w c)
    → AcknowledgesCuts r.id o calls w
    → (c : Channel)
    → IsIn c w.channels
    → LosesNoneBetween r.id w c
