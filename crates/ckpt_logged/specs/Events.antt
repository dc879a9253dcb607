-- What a coordinator was asked, with names or without, and what each of these does.
use Rattle.std.specs.Prelude.{ℕ, Bool, false, List, [], ◌∷◌, ◌++◌, Option, Some, None, ⊤}
use Rattle.ckpt_ids.specs.declared.call.Call.{Call}
use Rattle.ckpt_model.specs.Soundness.{IsCall, IsSound}
use Rattle.ckpt_terms.specs.{declared.call.FencedAnswer.FencedAnswer, declared.call.FencedCall.FencedCall, declared.call.FencedCall.TheVariants.Make}
use Rattle.ckpt_terms.specs.{declared.machine.FenceFault.FenceFault, declared.machine.Machine.Machine, Fencing.fenced_step, Fencing.passed, FencedLaws.IsFenced}
use Rattle.ckpt_terms.specs.{FencedLaws.IsFencedCall, Wants.wants_memory}
use Rattle.ckpt_terms.specs.declared.machine.Machine.TheVariants as machine
use Rattle.ckpt_terms.specs.Machines.{core_in, fence_fault, first_names, machine_of, machine_step}

-- a call without a term, a call of the layer of names, or names from this one on
pub data Event : Type 0 where
  Plain : Call → Event
  Named : FencedCall → Event
  Fence : ℕ → Event

abbrev pub event_of : Option Call → Option FencedCall → ℕ → Event
event_of (Some call) called first = Plain call
event_of None (Some call) first = Named call
event_of None None first = Fence first

-- a call of the layer of names does nothing where there is none
abbrev pub named_step : Machine → FencedCall → Machine
named_step (machine.Plain m) call = machine.Plain m
named_step (machine.Fenced m) call = machine.Fenced (fenced_step m call).0

-- names from this one on, unless there is a fault
abbrev pub named_from : Machine → ℕ → Option FenceFault → Machine
named_from m first None = machine_of (core_in m) (Some (first_names first))
named_from m first (Some why) = m

abbrev pub event_step : Machine → Event → Machine
event_step m (Plain call) = (machine_step m call).0
event_step m (Named call) = named_step m call
event_step m (Fence first) = named_from m first (fence_fault m first)

abbrev pub events_replay : Machine → List Event → Machine
events_replay m [] = m
events_replay m (event ∷ events) = events_replay (event_step m event) events

-- what the layer answers, where there is one
abbrev pub named_answer : Machine → FencedCall → Option FencedAnswer
named_answer (machine.Plain m) call = None
named_answer (machine.Fenced m) call = Some (fenced_step m call).1

-- whether the layer may run out of memory for the call
abbrev pub named_wants : Machine → FencedCall → Bool
named_wants (machine.Plain m) call = false
named_wants (machine.Fenced m) call = wants_memory m call

abbrev pub IsEvent : Event → Type 0
IsEvent (Plain call) = IsCall call
IsEvent (Named call) = IsFencedCall call
IsEvent (Fence first) = ⊤

abbrev pub AreEvents : List Event → Type 0
AreEvents [] = ⊤
AreEvents (event ∷ events) = IsEvent event × AreEvents events

-- what always holds
abbrev pub IsWell : Machine → Type 0
IsWell (machine.Plain m) = IsSound m
IsWell (machine.Fenced m) = IsFenced m

-- the calls that reach the coordinator below the names

abbrev pub passed_plain : Machine → Call → List Call
passed_plain (machine.Plain m) call = call ∷ []
passed_plain (machine.Fenced m) call = passed (Make 0 call) (fenced_step m (Make 0 call)).1

abbrev pub passed_named : Machine → FencedCall → List Call
passed_named (machine.Plain m) call = []
passed_named (machine.Fenced m) call = passed call (fenced_step m call).1

abbrev pub reached : Machine → Event → List Call
reached m (Plain call) = passed_plain m call
reached m (Named call) = passed_named m call
reached m (Fence first) = []

abbrev pub calls_in : Machine → List Event → List Call
calls_in m [] = []
calls_in m (event ∷ events) = reached m event ++ calls_in (event_step m event) events

-- where there are names, what is asked is a list of calls of the layer: a fence is refused
abbrev pub named_as : Event → List FencedCall
named_as (Plain call) = Make 0 call ∷ []
named_as (Named call) = call ∷ []
named_as (Fence first) = []

abbrev pub calls_named : List Event → List FencedCall
calls_named [] = []
calls_named (event ∷ events) = named_as event ++ calls_named events
