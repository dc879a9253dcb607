-- A completed record and the cuts of the job's subtasks.
use Rattle.std.specs.Prelude.{◌≡◌, ℕ, true, List}
use Rattle.ckpt_ids.specs.declared.ack.Acked.{Acked}
use Rattle.ckpt_ids.specs.declared.call.Call.{Call}
use Rattle.ckpt_ids.specs.Ordered.{IsIn}
use Rattle.ckpt_ids.specs.Records.{Record}
use Rattle.ckpt_ids.specs.Shapes.{subtasks}
use Rattle.ckpt_align.specs.Laws.{Channel, HasCut, IsConnected, IsConsistent, IsInOrder, Network}
use Rattle.ckpt_model.specs.State.{Opening, State, opened}
use Rattle.ckpt_model.specs.Histories.{replay}
use Rattle.ckpt_model.specs.Laws.{accepted_by, along}

-- Left to the engine: a subtask acknowledges a record only after its aligner has answered the cut of that record.
abbrev pub AcknowledgesCuts : ℕ → Opening → List Call → Network → Type 0
AcknowledgesCuts id o calls w = (a : Acked) → IsIn a (along (accepted_by id) (opened o) calls) → HasCut id (w.task a.subtask)

-- Left to the channels: each ends at an input of a subtask of the job, and keeps its order.
abbrev pub AreChannelsOf : List ℕ → Network → Type 0
AreChannelsOf shape w = (c : Channel) → IsIn c w.channels → IsIn c.receiver (subtasks shape) × IsConnected w c × IsInOrder w c

-- A live completed record is a consistent cut: on each channel the elements processed before the receiver's cut are
-- exactly those sent before the sender's. The network is that of the tasks since the restart before the record's
-- trigger.
abbrev pub DoneIsConsistent : Opening → List Call → Network → Type 0
DoneIsConsistent o calls w =
    let m : State = replay (opened o) calls in
    (r : Record)
    → IsIn r m.records
    → r.done ≡ true
    → AreChannelsOf r.shape w
    → AcknowledgesCuts r.id o calls w
    → IsConsistent r.id w
