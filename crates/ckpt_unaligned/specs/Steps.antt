-- What each event does, and its answer.
use Rattle.std.specs.Prelude.{ℕ, Bool, true, false, not, ◌&&◌, nat_lt, ◌==◌, Option, Some, None, Result, Ok, Err, slice_get, if◌then◌else◌}
use Rattle.std.specs.List.{list_any}
use Rattle.ckpt_align.specs.declared.input.Input.{Input}
use Rattle.ckpt_align.specs.declared.input.Input.TheVariants.{Open, Held, Ended}
use Rattle.ckpt_align.specs.declared.event.Event.{Event}
use Rattle.ckpt_align.specs.declared.event.Event.TheVariants.{Element, Barrier, End, GiveUp}
use Rattle.ckpt_align.specs.declared.event.Refusal.{Refusal}
use Rattle.ckpt_align.specs.declared.event.Refusal.TheVariants.{UnknownInput, HeldInput, EndedInput}
use Rattle.ckpt_align.specs.Alignment.{is_open}
use Rattle.ckpt_unaligned.specs.declared.answer.Answer.{Answer}
use Rattle.ckpt_unaligned.specs.declared.answer.Answer.TheVariants.{Process, Record, Hold, Nothing, Wait, Late, Cut, Snap, Complete, Abandon}
use Rattle.ckpt_unaligned.specs.declared.answer.Phase.{Phase}
use Rattle.ckpt_unaligned.specs.declared.answer.Phase.TheVariants as phase
use Rattle.ckpt_unaligned.specs.Recording.{Recorder, is_idle, is_recording, is_late, with_input, delivered, ended, overtaken}

abbrev pub Stepped : Type 0
Stepped = Recorder × Result Answer Refusal

-- The last barrier has come. If the record was aligned the snapshot is taken now; otherwise it was taken before.
abbrev pub whole : Phase → ℕ → Answer
whole phase.Recording n = Complete n
whole other n = Cut n

-- An input has delivered its barrier or has ended.
unfoldable pub settled : Recorder → Stepped
settled r =
    if is_idle r.phase then (r, Ok Nothing)
    else (if list_any is_open r.inputs then (r, Ok Wait) else (ended r, Ok (whole r.phase r.latest)))

-- A barrier on an open input. If a greater record comes while one is open, that one ends: on this input its barrier can
-- come no more. The greater one's is left on its input.
unfoldable pub barrier : Recorder → ℕ → ℕ → Stepped
barrier r i n =
    if is_late r n then (r, Ok Late)
    else (if not (is_idle r.phase) && nat_lt r.latest n then (ended r, Ok (Abandon r.latest)) else settled (delivered r i n))

unfoldable pub give_up : Recorder → ℕ → Stepped
give_up r n = if not (is_idle r.phase) && (n == r.latest) then (ended r, Ok (Abandon n)) else (r, Ok Nothing)

-- whether a record may overtake: nothing is done for another one
abbrev pub is_free_for : Phase → Bool → Bool
is_free_for phase.Idle is_latest = true
is_free_for phase.Aligning is_latest = is_latest
is_free_for phase.Recording is_latest = false

-- The barrier of a record was seen on an input, wherever it stands there, or has waited there for long enough. Source: Carbone
-- et al. 2015, and Flink's unaligned checkpoints: the snapshot is taken at once, and what the barrier overtakes is recorded.
unfoldable pub overtake : Recorder → ℕ → Stepped
overtake r n =
    if is_late r n then (r, Ok Late)
    else (if list_any is_open r.inputs && is_free_for r.phase (n == r.latest) then (overtaken r n, Ok (Snap n)) else (r, Ok Nothing))

-- While a record is recorded nothing is held, and what comes before its barrier is recorded.
abbrev pub element : Recorder → Option Input → Stepped
element r None = (r, Err UnknownInput)
element r (Some Open) = (r, Ok (if is_recording r.phase then Record else Process))
element r (Some Held) = (r, Ok (if is_recording r.phase then Process else Hold))
element r (Some Ended) = (r, Err EndedInput)

-- A barrier or an end is taken from an open input only: on one that has delivered its barrier the next waits.
abbrev pub if_open : Recorder → Option Input → Stepped → Stepped
if_open r None stepped = (r, Err UnknownInput)
if_open r (Some Open) stepped = stepped
if_open r (Some Held) stepped = (r, Err HeldInput)
if_open r (Some Ended) stepped = (r, Err EndedInput)

unfoldable pub step : Recorder → Event → Stepped
step r (Element i) = element r (slice_get r.inputs i)
step r (Barrier i n) = if_open r (slice_get r.inputs i) (barrier r i n)
step r (End i) = if_open r (slice_get r.inputs i) (settled (with_input r i Ended))
step r (GiveUp n) = give_up r n
