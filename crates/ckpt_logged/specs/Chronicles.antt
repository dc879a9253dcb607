-- A coordinator, the state that it began with, and what it was asked since.
use Rattle.std.specs.Prelude.{◌≡◌, List, [], ◌∷◌, ◌++◌}
use Rattle.ckpt_ids.specs.declared.call.Call.{Call}
use Rattle.ckpt_terms.specs.{declared.machine.Machine.Machine, declared.call.FencedCall.FencedCall}
use Rattle.ckpt_terms.specs.declared.machine.Machine.TheVariants as machine
use Rattle.ckpt_logged.specs.Events.{AreEvents, Event, IsWell, Named, calls_in, event_step, events_replay}

pub record Chronicle : Type 0 where
  pub now : Machine
  -- an opening, or the state of an image
  pub begin : Machine
  pub events : List Event

-- the state is the replay of the events
pub record IsChronicle (c : Chronicle) : Type 0 where
  pub begin : IsWell c.begin
  pub events : AreEvents c.events
  pub replay : c.now ≡ events_replay c.begin c.events

-- nothing was asked yet
abbrev pub begun : Machine → Chronicle
begun m = record { now = m; begin = m; events = [] }

-- one event more
abbrev pub told : Chronicle → Event → Chronicle
told c event = record { now = event_step c.now event; begin = c.begin; events = c.events ++ event ∷ [] }

-- a call of the layer of names is one event more, where there are names
abbrev pub grown_by : Machine → Chronicle → FencedCall → Chronicle
grown_by (machine.Plain m) c call = c
grown_by (machine.Fenced m) c call = told c (Named call)

abbrev pub grown : Chronicle → FencedCall → Chronicle
grown c call = grown_by c.now c call

-- the calls that reached the coordinator below the names
abbrev pub calls_of : Chronicle → List Call
calls_of c = calls_in c.begin c.events
