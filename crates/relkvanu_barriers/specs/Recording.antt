-- The recorder of a task in plain memory, and what a step is told as.
use Rattle.std.specs.Prelude.{◌≡◌, ℕ, ◌<◌, ◌==◌, List, map, Result, Ok, Err, if◌then◌else◌}
use Rattle.ckpt_align.specs.declared.event.Refusal.{Refusal}
use Rattle.ckpt_align.specs.declared.event.Refusal.TheVariants.{UnknownInput, HeldInput, EndedInput}
use Rattle.ckpt_unaligned.specs.{declared.answer.Answer.Answer, declared.answer.Phase.Phase}
use Rattle.ckpt_unaligned.specs.declared.answer.Answer.TheVariants.{Process, Record, Hold, Nothing, Wait, Late, Cut, Snap, Complete, Abandon}
use Rattle.ckpt_unaligned.specs.declared.answer.Phase.TheVariants.{Idle, Aligning, Recording}
use Rattle.ckpt_unaligned.specs.Recording as unaligned
use Rattle.relkvanu_barriers.specs.{declared.aligning.Step.Step, declared.recording.Recorder.Recorder, Aligning.input_of, Aligning.step_with}

abbrev pub phase_of : ℕ → Phase
phase_of phase = if phase == 0 then Idle else (if phase == 1 then Aligning else Recording)

-- the recorder that this memory is; every memory is one
abbrev pub recorder_in : Recorder → List ℕ → unaligned.Recorder
recorder_in recorder inputs = record { inputs = map input_of inputs; latest = recorder.latest; phase = phase_of recorder.phase }

-- the step for an answer or a refusal
abbrev pub told_as : Result Answer Refusal → Step
told_as (Ok Process) = step_with 1 0
told_as (Ok Hold) = step_with 2 0
told_as (Ok Nothing) = step_with 3 0
told_as (Ok Wait) = step_with 4 0
told_as (Ok Late) = step_with 5 0
told_as (Ok (Cut id)) = step_with 6 id
told_as (Ok (Abandon id)) = step_with 7 id
told_as (Err UnknownInput) = step_with 8 0
told_as (Err HeldInput) = step_with 9 0
told_as (Err EndedInput) = step_with 10 0
told_as (Ok Record) = step_with 12 0
told_as (Ok (Snap id)) = step_with 13 id
told_as (Ok (Complete id)) = step_with 14 id
