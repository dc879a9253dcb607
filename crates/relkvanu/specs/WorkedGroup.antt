-- A worked example of a program with a group. Record 1 is triggered, and told of once that is synced. An acknowledgement completes it, and is lost with its
-- group; another group, whose receipts go on, makes it again. The expected values were written by hand.
use Rattle.std.specs.Prelude.{false, List, [], ◌∷◌}
use Rattle.ckpt_ids.specs.declared.call.Call.TheVariants.{Ack, Tick}
use Rattle.ckpt_model.specs.State.{opened}
use Rattle.ckpt_terms.specs.declared.machine.Machine.{Machine}
use Rattle.ckpt_terms.specs.declared.machine.Machine.TheVariants as machine
use Rattle.ckpt_logged.specs.Events.{Event, Plain, event_step}
use Rattle.ckpt_durable.specs.Groups.{Committed, Crashed, Looked, Made, Turn, world}
use Rattle.relkvanu.specs.{declared.answer.Answer.Answer, Told.done}
use Rattle.relkvanu.specs.GroupPrograms.{Asks, Ends, Held, Looks, Notes, Operation, Program, Syncs}

-- one subtask
abbrev pub begin : Machine
begin = machine.Plain (opened (record {
  config = record { interval = 1000; pause = 0; at_once = 1; timeout = 600000; tolerable = 0; retained = 1; keep_on_cancel = false };
  shape = 1 ∷ [];
  start = 0;
  first = 1;
}))

abbrev pub ticks : Event
ticks = Plain (Tick 1000)

abbrev pub acks : Event
acks = Plain (Ack 1500 1 (record { vertex = 0; index = 0 }) [] [])

-- no record is complete; record 1 is triggered; it is complete
abbrev pub fresh_choice : Answer
fresh_choice = done 31 0 0

abbrev pub triggered : Answer
triggered = done 1 0 1

abbrev pub completed : Answer
completed = done 8 0 0

abbrev pub buffer : List Answer
buffer = fresh_choice ∷ fresh_choice ∷ []

abbrev pub operations : List Operation
operations = Looks fresh_choice ∷ Asks ticks triggered ∷ Syncs ∷ Asks acks completed ∷ Ends 0 3 ∷ Asks acks completed ∷ Syncs ∷ []

abbrev pub turns : List Turn
turns = Looked ∷ Made ticks ∷ Committed ∷ Made acks ∷ Crashed 0 ∷ Made acks ∷ Committed ∷ []

-- The last receipt is 3, and tells the completion.
abbrev pub last : Program
last = record {
  life = (world begin turns).life;
  group = record { waiting = 0; told = 1; has_failed = false; given = 4 };
  held = completed ∷ fresh_choice ∷ [];
}

abbrev pub looked_at : Held
looked_at = (fresh_choice, record { state = begin; entry = [] })

abbrev pub made_tick : Held
made_tick = (triggered, record { state = begin; entry = ticks ∷ [] })

abbrev pub made_ack : Held
made_ack = (completed, record { state = event_step begin ticks; entry = acks ∷ [] })

abbrev pub notes : Notes
notes = record { waiting = []; synced = looked_at ∷ made_tick ∷ made_ack ∷ []; given = made_ack ∷ []; first = 3 }
