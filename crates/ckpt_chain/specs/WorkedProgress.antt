-- Worked examples of progress, with names and without, and of an advance. The expected values were written by hand.
use Rattle.std.specs.Prelude.{◌≡◌, false, List, [], ◌∷◌, map, refl}
use Rattle.ckpt_ids.specs.{declared.call.Call.TheVariants.Tick, declared.reply.Answer.TheVariants.Done, Records.Record}
use Rattle.ckpt_ids.specs.declared.numbers.Kind.TheVariants as kind
use Rattle.ckpt_ids.specs.declared.reply.Choice.TheVariants as choice
use Rattle.ckpt_ids.specs.declared.reply.Reply.TheVariants as reply
use Rattle.ckpt_model.specs.{State.State, State.opened, Steps.step_computes, Histories.answers, Histories.replay, Progress.TimedPart, Progress.ack_at}
use Rattle.ckpt_terms.specs.declared.call.FencedAnswer.TheVariants as answer
use Rattle.ckpt_terms.specs.{declared.call.FencedCall.FencedCall, TermsImages.fenced_answers}
use Rattle.ckpt_terms.specs.declared.call.FencedCall.TheVariants.{Advance, Make, Reserve}
use Rattle.ckpt_terms.specs.Fencing.{Fenced, fenced, fenced_replay, fenced_step}
use Rattle.ckpt_once.specs.WorkedExamples.{adder, source}
use Rattle.ckpt_task.specs.WorkedLoops.{opening}

-- Record 1 is triggered, and lacks both subtasks.
abbrev pub waits : State
waits = replay (opened opening) (Tick 1000 ∷ [])

abbrev pub lacking : Record
lacking = record { id = 1; kind = kind.Checkpoint; done = false; shape = 1 ∷ 1 ∷ []; started = 1000; acks = []; pins = [] }

-- The adder acknowledges first, each of them with a file.
abbrev pub of_adder : TimedPart
of_adder = record { now = 1100; part = record { subtask = adder; fresh = 6 ∷ []; reused = [] } }

abbrev pub of_source : TimedPart
of_source = record { now = 1200; part = record { subtask = source; fresh = 5 ∷ []; reused = [] } }

abbrev pub parts : List TimedPart
parts = of_adder ∷ of_source ∷ []

pub completed : answers waits (map (ack_at 1) parts) ≡ Done (reply.AckPending 1) ∷ Done (reply.AckCompleted 0 0) ∷ []
unfolding step_computes
completed = refl

-- The same with names: term 1 holds the names 5 to 7.
abbrev pub holds : Fenced
holds = fenced_replay (fenced opening 5) (Make 0 (Tick 1000) ∷ Reserve 1 3 ∷ [])

-- An advance behind term 8, with names from 100 on.
abbrev pub advance : FencedCall
advance = Advance 2000 8 100

pub advanced : fenced_answers holds (advance ∷ Reserve 9 2 ∷ []) ≡ answer.Made 9 (Done (reply.Restored choice.Fresh 0)) ∷ answer.Reserved 100 ∷ []
unfolding fenced_step step_computes
advanced = refl
