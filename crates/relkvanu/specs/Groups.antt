-- What a program with a log of its own keeps beside a handle: answers that may be told once what was made before them is synced.
use Rattle.std.specs.Prelude.{◌≡◌, ◌<◌, ℕ, ◌+◌, ◌-◌, ◌^◌, nat_le, nat_lt, Bool, true, false, ◌==◌, ◌&&◌, ◌||◌, if◌then◌else◌, List, length, set, slice_get, unwrap_or}
use Rattle.ckpt_logged.specs.Events.{Event, Fence, Named, Plain, event_step}
use Rattle.ckpt_terms.specs.{declared.call.FencedCall.TheVariants.Make, declared.machine.Machine.Machine, Machines.is_free}
use Rattle.relkvanu.specs.{declared.answer.Answer.Answer, declared.asked.Asked.Asked, declared.group.Group.Group, Told.bad_argument, Told.done}
use Rattle.relkvanu.specs.declared.asked.Asked.TheVariants as ask

-- the bad argument of a group that has failed
abbrev pub bad_group : ℕ
bad_group = 9

-- the bad argument of a receipt by which nothing may be told, and of a buffer without a place for an answer
abbrev pub bad_receipt : ℕ
bad_receipt = 10

-- receipts are below this one
abbrev pub receipts_end : ℕ
receipts_end = 2 ^ 62

-- nothing waits, and nothing may be told; receipts count from this one on
abbrev pub fresh : ℕ → Group
fresh first = record { waiting = 0; told = 0; has_failed = false; given = first }

-- an answer can be held back
abbrev pub IsRoom : Group → ℕ → Type 0
IsRoom g places = (g.has_failed ≡ false) × (g.waiting < places) × (g.given < receipts_end)

-- why none can
abbrev pub why_full : Group → Answer
why_full g = if g.has_failed then bad_argument bad_group else bad_argument bad_receipt

-- there is no room
abbrev pub IsFull : Group → ℕ → Type 0
IsFull g places = IsRoom g places → ⊥

-- one answer more waits, with the next receipt, and those of the last sync may be told no more
abbrev pub one_more : Group → Group
one_more g = record { waiting = g.waiting + 1; told = 0; has_failed = false; given = g.given + 1 }

-- those that waited may be told
abbrev pub all_told : Group → Group
all_told g = record { waiting = 0; told = g.waiting; has_failed = false; given = g.given }

-- none may ever be told
abbrev pub all_lost : Group → Group
all_lost g = record { waiting = 0; told = 0; has_failed = true; given = g.given }

-- the answer tells of the state: the call was made, or is refused by the state, by a term or by the names
abbrev pub tells : Answer → Bool
tells a = (a.code == 0) || ((a.code == 1) || (a.code == 7))

-- what is told at once: the receipt of an answer that waits, or an answer that tells nothing of the state
abbrev pub receipt_of : Group → Answer → Answer
receipt_of g a = if a.code == 0 then done 62 g.given 0 else (if tells a then done 63 g.given 0 else a)

abbrev pub group_with : Group → Answer → Group
group_with g a = if tells a then one_more g else g

abbrev pub held_with : Group → List Answer → Answer → List Answer
held_with g held a = if tells a then set held g.waiting a else held

-- the answer of the call: it is held, or it was told at once
abbrev pub held_answer : Group → List Answer → Answer → Answer
held_answer g held result = if result.code == 0 then unwrap_or (slice_get held g.waiting) result else result

-- if there is room, this holds of the answer of the call
abbrev pub IfRoom : Group → List Answer → List Answer → Answer → (Answer → Type 0) → Type 0
IfRoom g old new result P = IsRoom g (length old) → P (held_answer g new result)

-- the receipt is one of the last sync: no other one was given since, and those that may be told have the last ones
abbrev pub is_told : Group → ℕ → Bool
is_told g receipt = nat_lt receipt g.given && nat_le (g.given - receipt) g.told

-- the answer by a receipt, if it may be told
abbrev pub told_by : Group → List Answer → ℕ → Answer
told_by g held receipt =
    if g.has_failed then bad_argument bad_group
    else if is_told g receipt then unwrap_or (slice_get held (g.told - (g.given - receipt))) (bad_argument bad_receipt) else bad_argument bad_receipt

-- The entry of a call that was made: what its line asks for.
abbrev pub asked_event : Asked → Event
asked_event (ask.Fence first) = Fence first
asked_event (ask.Call (Make term call)) = if term == 0 then Plain call else (if is_free call then Plain call else Named (Make term call))
asked_event (ask.Call call) = Named call

-- a step is that of this event, if its answer says that the call was made
abbrev pub IsEventOf : Machine → Machine × Answer → Event → Type 0
IsEventOf k x event = x.1.code ≡ 0 → x.0 ≡ event_step k event
