-- Tasks that have ended.
use Rattle.std.specs.Prelude.{◌≡◌, ℕ, ◌<◌, true, List, ◌⊎◌}
use Rattle.ckpt_ids.specs.{declared.ack.Acked.Acked, declared.call.Call.Call, Ordered.IsIn, Records.Record}
use Rattle.ckpt_align.specs.{Alignment.opened, Histories.before_cut, Histories.taken}
use Rattle.ckpt_align.specs.Laws.{Channel, HasCut, IsConnected, IsConsistent, IsInOrder, Network, Task}
use Rattle.ckpt_cuts.specs.Laws.{AreChannelsOf}
use Rattle.ckpt_model.specs.{State.Opening, State.State, Histories.replay, Laws.accepted_by, Laws.along}
use Rattle.ckpt_model.specs.State as model
use Rattle.ckpt_other_cuts.specs.Stops.{EndsWithout}

-- A task ended with all its inputs, and no input had given it a barrier of the record. Its part of the record is all
-- that it did.
abbrev pub HasFinished : ℕ → Task → Type 0
HasFinished n t = (j : ℕ) → j < t.inputs → EndsWithout n (taken j (opened t.inputs) (before_cut n (opened t.inputs) t.actions))

abbrev pub HasItsPart : ℕ → Task → Type 0
HasItsPart n t = HasCut n t ⊎ HasFinished n t

abbrev pub FinishedCut : ℕ → Network → Type 0
FinishedCut n w = ((c : Channel) → IsIn c w.channels → IsConnected w c × IsInOrder w c × HasItsPart n (w.task c.receiver)) → IsConsistent n w

-- Left to the engine: an acknowledgement that was accepted is of a task that has cut the record, or it was made for one
-- that has ended.
abbrev pub AcknowledgesParts : ℕ → Opening → List Call → Network → Type 0
AcknowledgesParts id o calls w = (a : Acked) → IsIn a (along (accepted_by id) (model.opened o) calls) → HasItsPart id (w.task a.subtask)

abbrev pub DoneIsConsistent : Opening → List Call → Network → Type 0
DoneIsConsistent o calls w =
    let m : State = replay (model.opened o) calls in
    (r : Record)
    → IsIn r m.records
    → r.done ≡ true
    → AreChannelsOf r.shape w
    → AcknowledgesParts r.id o calls w
    → IsConsistent r.id w
