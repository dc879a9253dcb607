-- How the past of a handle grows.
use Rattle.std.specs.Prelude.{◌≡◌, ◌≢◌, ℕ, nat_lt, ◌==◌, if◌then◌else◌, List, length, Option, Some, None, Result, Ok, Err}
use Rattle.std.specs.Option.{option_map}
use Rattle.ckpt_ids.specs.{declared.call.Call.Call, declared.subtask.SubtaskId.SubtaskId}
use Rattle.ckpt_ids.specs.declared.call.Call.TheVariants as call
use Rattle.ckpt_model.specs.{Laws.CanOpen, State.Opening, State.opened, Steps.step}
use Rattle.ckpt_terms.specs.{declared.call.FencedCall.FencedCall, declared.call.FencedCall.TheVariants.Make, declared.machine.FenceFault.FenceFault}
use Rattle.ckpt_terms.specs.{declared.machine.Machine.Machine, Fencing.fenced}
use Rattle.ckpt_terms.specs.declared.machine.Machine.TheVariants as machine
use Rattle.ckpt_terms.specs.Machines.{core_in, fence_fault, is_free}
use Rattle.ckpt_logged.specs.Chronicles.{Chronicle, begun, grown, told}
use Rattle.ckpt_logged.specs.{Events.Fence, Events.Plain, Promises.Promises}
use Rattle.relkvanu.specs.{declared.answer.Answer.Answer, declared.asked.Asked.Asked, Asking.said, Buffers.files_in, Calls.ack_of, Told.no_memory}
use Rattle.relkvanu.specs.declared.asked.Asked.TheVariants as ask

-- The past after a call is this function of the one before, unless memory ran out: then it stays.
pub record GrowsBy (grow : Chronicle → Chronicle) (old new : Option Chronicle) (answer : Answer) : Type 0 where
  pub made : answer.code ≢ no_memory → new ≡ option_map grow old
  pub unmade : answer.code ≡ no_memory → new ≡ old

-- the same of a coordinator
abbrev pub IsGrown : (Chronicle → Chronicle) → Chronicle → Chronicle → Answer → Type 0
IsGrown grow old new answer = answer.code ≢ no_memory → new ≡ grow old

-- a call without a term is one event more
abbrev pub plainly : Call → Chronicle → Chronicle
plainly call c = told c (Plain call)

-- a call of the layer of names is one event more, where there are names
abbrev pub in_layer : FencedCall → Chronicle → Chronicle
in_layer call c = grown c call

-- such as an acknowledgement
abbrev pub ack_in_layer : ℕ → ℕ → ℕ → SubtaskId → List ℕ → List ℕ → Chronicle → Chronicle
ack_in_layer term now id subtask fresh reused = in_layer (Make term (ack_of now id subtask fresh reused))

abbrev pub fenced_unless : Option FenceFault → ℕ → Chronicle → Chronicle
fenced_unless None first c = told c (Fence first)
fenced_unless (Some why) first c = c

-- names from this one on are one event more, unless there is a fault
abbrev pub with_fence : ℕ → Chronicle → Chronicle
with_fence first c = fenced_unless (fence_fault c.now first) first c

-- A line's call without a term is one event more. A take of more files than the buffer has places for is not made, and a show
-- changes nothing.
unfoldable pub plain_line : ℕ → Call → Chronicle → Chronicle
plain_line places (call.Take most) c =
    if nat_lt places (length (files_in (step (core_in c.now) (call.Take most)).1)) then c else told c (Plain (call.Take most))
plain_line places (call.Show id) c = c
plain_line places call c = told c (Plain call)

-- a line's call with a term, of a coordinator with names or without
abbrev pub named_by : Machine → ℕ → ℕ → Call → Chronicle → Chronicle
named_by (machine.Plain m) places term call c = c
named_by (machine.Fenced m) places term call c = if is_free call then plain_line places call c else grown c (Make term call)

-- term 0 is none
abbrev pub call_line : ℕ → FencedCall → Chronicle → Chronicle
call_line places (Make term call) c = if term == 0 then plain_line places call c else named_by c.now places term call c
call_line places call c = grown c call

abbrev pub asked_line : ℕ → Asked → Chronicle → Chronicle
asked_line places (ask.Fence first) c = with_fence first c
asked_line places (ask.Call call) c = call_line places call c

-- what a line asks for, if the buffer has this many places
abbrev pub said_line : ℕ → Result Asked Answer → Chronicle → Chronicle
said_line places (Ok asked) c = asked_line places asked c
said_line places (Err answer) c = c

abbrev pub by_line : ℕ → List ℕ → Chronicle → Chronicle
by_line places bytes c = said_line places (said bytes) c

-- a handle that was opened begins at this coordinator, of an opening whose arguments are all good
pub record Begins (o : Opening) (k : Machine) (old new : Option Chronicle) (answer : Answer) : Type 0 where
  pub good : answer.code ≡ 0 → CanOpen o
  pub opened : answer.code ≡ 0 → new ≡ Some (begun k)
  pub unopened : answer.code ≢ 0 → new ≡ old

-- without names
abbrev pub BeginsPlain : Opening → Option Chronicle → Option Chronicle → Answer → Type 0
BeginsPlain o old new answer = Begins o (machine.Plain (opened o)) old new answer

-- with names from this one on
abbrev pub BeginsFenced : Opening → ℕ → Option Chronicle → Option Chronicle → Answer → Type 0
BeginsFenced o first_name old new answer = Begins o (machine.Fenced (fenced o first_name)) old new answer

-- what the past of an open handle promises
abbrev pub IsPromised : Option Chronicle → Type 0
IsPromised past = (c : Chronicle) → past ≡ Some c → Promises c
