-- The alignment of a task in plain memory, and what a step is told as.
use Rattle.std.specs.Prelude.{◌≡◌, ℕ, ◌==◌, List, map, slice_get, Result, Ok, Err, if◌then◌else◌}
use Rattle.ckpt_align.specs.{declared.input.Input.Input, declared.event.Answer.Answer, declared.event.Refusal.Refusal, Alignment.Alignment, Steps.Stepped, Steps.if_open}
use Rattle.ckpt_align.specs.declared.input.Input.TheVariants.{Open, Held, Ended}
use Rattle.ckpt_align.specs.declared.event.Answer.TheVariants.{Process, Hold, Nothing, Wait, Late, Cut, Abandon}
use Rattle.ckpt_align.specs.declared.event.Refusal.TheVariants.{UnknownInput, HeldInput, EndedInput}
use Rattle.relkvanu_barriers.specs.{declared.aligning.Aligner.Aligner, declared.aligning.Step.Step}

-- how an input is, by its byte
abbrev pub input_of : ℕ → Input
input_of byte = if byte == 0 then Open else (if byte == 1 then Held else Ended)

-- the alignment that this memory is; every memory is one
abbrev pub alignment_in : Aligner → List ℕ → Alignment
alignment_in aligner inputs = record { inputs = map input_of inputs; latest = aligner.latest }

-- an input that is not open is refused so, whatever it delivers
abbrev pub IsNotOpen : List ℕ → ℕ → Refusal → Type 0
IsNotOpen inputs input why =
    (a : Aligner) (stepped : Stepped) → if_open (alignment_in a inputs) (slice_get (map input_of inputs) input) stepped ≡ (alignment_in a inputs, Err why)

abbrev pub step_with : ℕ → ℕ → Step
step_with what id = record { what = what; id = id }

-- the step for an answer or a refusal
abbrev pub told : Result Answer Refusal → Step
told (Ok Process) = step_with 1 0
told (Ok Hold) = step_with 2 0
told (Ok Nothing) = step_with 3 0
told (Ok Wait) = step_with 4 0
told (Ok Late) = step_with 5 0
told (Ok (Cut id)) = step_with 6 id
told (Ok (Abandon id)) = step_with 7 id
told (Err UnknownInput) = step_with 8 0
told (Err HeldInput) = step_with 9 0
told (Err EndedInput) = step_with 10 0

-- the alignment begins
abbrev pub is_ready : Step
is_ready = step_with 3 0

-- a task has no such number of inputs
abbrev pub bad_inputs : Step
bad_inputs = step_with 11 0
