-- What each event does, and its answer.
use Rattle.std.specs.Prelude.{◌≡◌, ℕ, ◌&&◌, nat_lt, ◌==◌, Option, Some, None, Result, Ok, Err, slice_get, if◌then◌else◌}
use Rattle.std.specs.List.{list_any}
use Rattle.ckpt_align.specs.declared.input.Input.{Input}
use Rattle.ckpt_align.specs.declared.input.Input.TheVariants.{Open, Held, Ended}
use Rattle.ckpt_align.specs.declared.event.Event.{Event}
use Rattle.ckpt_align.specs.declared.event.Event.TheVariants.{Element, Barrier, End, GiveUp}
use Rattle.ckpt_align.specs.declared.event.Answer.{Answer}
use Rattle.ckpt_align.specs.declared.event.Answer.TheVariants.{Process, Hold, Nothing, Wait, Late, Cut, Abandon}
use Rattle.ckpt_align.specs.declared.event.Refusal.{Refusal}
use Rattle.ckpt_align.specs.declared.event.Refusal.TheVariants.{UnknownInput, HeldInput, EndedInput}
use Rattle.ckpt_align.specs.Alignment.{Alignment, is_open, is_aligning, is_late, with_input, held_for, all_released}

abbrev pub Stepped : Type 0
Stepped = Alignment × Result Answer Refusal

-- An input has delivered its barrier or has ended. If a record is being aligned and no input is open any more, this is
-- the cut. Source: Carbone et al. 2015: when a barrier has come from all inputs, the task takes a snapshot of its
-- state, and then unblocks its inputs.
unfoldable pub settled : Alignment → Stepped
settled a =
    if is_aligning a
    then (if list_any is_open a.inputs then (a, Ok Wait) else (all_released a, Ok (Cut a.latest)))
    else (a, Ok Nothing)

-- A barrier on an open input. A greater record than the one being aligned takes its place: on this input the barrier of
-- that one can come no more, since a task sends barriers in rising order. Source: the same: the input is blocked until
-- the barrier has come from all. That a later record replaces an incomplete one is as in Flink.
unfoldable pub barrier : Alignment → ℕ → ℕ → Stepped
barrier a i n =
    if is_late a n then (a, Ok Late)
    else (if is_aligning a && nat_lt a.latest n
    then (held_for (all_released a) i n, Ok (Abandon a.latest))
    else settled (held_for a i n))

unfoldable pub give_up : Alignment → ℕ → Stepped
give_up a n = if is_aligning a && (n == a.latest) then (all_released a, Ok (Abandon n)) else (a, Ok Nothing)

abbrev pub element : Alignment → Option Input → Stepped
element a None = (a, Err UnknownInput)
element a (Some Open) = (a, Ok Process)
element a (Some Held) = (a, Ok Hold)
element a (Some Ended) = (a, Err EndedInput)

-- a barrier or an end is taken from an open input only
abbrev pub if_open : Alignment → Option Input → Stepped → Stepped
if_open a None stepped = (a, Err UnknownInput)
if_open a (Some Open) stepped = stepped
if_open a (Some Held) stepped = (a, Err HeldInput)
if_open a (Some Ended) stepped = (a, Err EndedInput)

unfoldable pub step : Alignment → Event → Stepped
step a (Element i) = element a (slice_get a.inputs i)
step a (Barrier i n) = if_open a (slice_get a.inputs i) (barrier a i n)
step a (End i) = if_open a (slice_get a.inputs i) (settled (with_input a i Ended))
step a (GiveUp n) = give_up a n

-- some aligner answers some event with the cut of this record
abbrev pub IsCut : ℕ → Type 0
IsCut id = (a : Alignment) × (e : Event) × ((step a e).1 ≡ Ok (Cut id))
