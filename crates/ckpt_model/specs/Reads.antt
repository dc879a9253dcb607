-- The reads of a coordinator.
use Rattle.std.specs.Prelude.{◌≡◌, ℕ, ◌<◌, ◌≤◌, max, Bool, true, false, nat_lt, nat_le, if◌then◌else◌, List, [], map, length, Option, Some, None}
use Rattle.std.specs.List.{list_any}
use Rattle.ckpt_ids.specs.declared.call.Call.TheVariants.{Tick}
use Rattle.ckpt_ids.specs.declared.reply.TickEnd.{TickEnd}
use Rattle.ckpt_ids.specs.declared.reply.TickEnd.TheVariants.{HeldInterval, HeldPause}
use Rattle.ckpt_ids.specs.declared.reply.Reply.TheVariants.{Ticked}
use Rattle.ckpt_ids.specs.declared.reply.Answer.{Answer}
use Rattle.ckpt_ids.specs.declared.reply.Answer.TheVariants.{Done}
use Rattle.ckpt_ids.specs.Ascending.{ascending_set}
use Rattle.ckpt_ids.specs.Records.{Record, Use}
use Rattle.ckpt_rules.specs.Trigger.{pause_ends}
use Rattle.ckpt_model.specs.declared.reads.Live.{Live}
use Rattle.ckpt_model.specs.declared.reads.Standing.{Standing}
use Rattle.ckpt_model.specs.declared.reads.Standing.TheVariants as stands
use Rattle.ckpt_model.specs.Memory.{is_trigger}
use Rattle.ckpt_model.specs.State.{State, is_expired, record_of}
use Rattle.ckpt_model.specs.Steps.{step}

-- the moment from which neither the interval nor the pause holds a checkpoint back
abbrev pub next_due : State → ℕ
next_due m = max m.due (pause_ends m.opening.config m.completed)

-- whether a tick triggered a checkpoint
abbrev pub triggered_one : Answer → Bool
triggered_one (Done (Ticked expired end)) = is_trigger end
triggered_one answer = false

abbrev pub is_held_by_time : TickEnd → Bool
is_held_by_time HeldInterval = true
is_held_by_time HeldPause = true
is_held_by_time end = false

-- whether the interval or the pause held a tick back
abbrev pub was_early : Answer → Bool
was_early (Done (Ticked expired end)) = is_held_by_time end
was_early answer = false

-- a tick before the moment triggers none; its moment is the greatest seen
abbrev pub NoneTriggersBefore : State → ℕ → Type 0
NoneTriggersBefore m moment = (now : ℕ) → max now m.latest < moment → triggered_one (step m (Tick now)).1 ≡ false

-- from the moment on the interval and the pause hold no tick back
abbrev pub NoneIsEarlyFrom : State → ℕ → Type 0
NoneIsEarlyFrom m moment = (now : ℕ) → moment ≤ max now m.latest → was_early (step m (Tick now)).1 ≡ false

-- whether a moment has come
abbrev pub has_come : Option ℕ → ℕ → Bool
has_come None now = false
has_come (Some moment) now = nat_le moment now

-- from the moment on, and not before, a pending record is expired; without one none ever is
abbrev pub IsNextExpiry : State → Option ℕ → Type 0
IsNextExpiry m moment = (now : ℕ) → list_any (is_expired m now) m.records ≡ has_come moment now

-- the number, the kind and the state of a live record
abbrev pub live_of : Record → Live
live_of r = record { id = r.id; kind = r.kind; done = r.done }

-- the one with the lower number, if there are two
abbrev pub sooner : Option Live → Option Live → Option Live
sooner None b = b
sooner (Some a) None = Some a
sooner (Some a) (Some b) = if nat_lt a.id b.id then Some a else Some b

-- what the number of a live record is
abbrev pub standing_of : Record → Standing
standing_of r = if r.done then stands.Done else stands.Pending

-- what a number is that no live record has
abbrev pub standing_without : State → ℕ → Standing
standing_without m id = if nat_lt id m.opening.first then stands.Never else (if nat_lt id m.next then stands.Ended else stands.NotYet)

-- what a number is
abbrev pub standing : State → ℕ → Standing
standing m id = elim (record_of m id) [ Some r ↦ standing_of r | None ↦ standing_without m id ]

-- the pins of a record, if there is one
abbrev pub pins_in : Option Record → List ℕ
pins_in None = []
pins_in (Some r) = r.pins

-- how many files are in use
abbrev pub present_in : List Use → ℕ
present_in us = length (ascending_set (map (λ u. u.file) us))
