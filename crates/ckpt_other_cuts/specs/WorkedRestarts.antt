-- A worked example: the job of `WorkedShapes` cuts a record, and is restored to it with a subtask for each key. The expected
-- values were written by hand.
use Rattle.std.specs.Prelude.{◌≡◌, ◌==◌, ℕ, false, if◌then◌else◌, List, [], ◌∷◌, refl}
use Rattle.ckpt_ids.specs.{declared.call.Call.Call, declared.call.Call.TheVariants.Ack, declared.call.Call.TheVariants.Tick}
use Rattle.ckpt_align.specs.Histories.{Barrier, Element}
use Rattle.ckpt_align.specs.Steps.{barrier, settled, step}
use Rattle.ckpt_model.specs.State.{Opening}
use Rattle.ckpt_once.specs.Programs.{Draws, Drawn, Offered, Takes, Turn}
use Rattle.ckpt_once.specs.Jobs.{By, History, Run, States, starts, states_after, states_in}
use Rattle.ckpt_once.specs.{PlainHistories.history_of, Sinks.Sink, Sinks.written}
use Rattle.ckpt_other_cuts.specs.Reshaped.{Restart, Stage, finest, published_before, recorded}
use Rattle.ckpt_other_cuts.specs.WorkedShapes.{by, job, keys, spread, subtask}

-- The coordinator of two vertices with one subtask each. It triggers record 1, and both subtasks acknowledge.
abbrev pub opening : Opening
opening = record {
  config = record { interval = 1000; pause = 0; at_once = 1; timeout = 600000; tolerable = 0; retained = 1; keep_on_cancel = false };
  shape = 1 ∷ 1 ∷ [];
  start = 0;
  first = 1;
}

abbrev pub calls : List Call
calls = Tick 1000 ∷ Ack 1000 1 (subtask 0 0) [] [] ∷ Ack 1000 1 (subtask 1 0) [] [] ∷ []

-- The source emits 1 and 2, and cuts the record; then it emits 3. The subtask takes 1 and 2 before its cut.
abbrev pub turn : ℕ → Turn → By Turn
turn vertex what = record { task = subtask vertex 0; what = what }

abbrev pub failed : History
failed =
    turn 1 (Offered 0 (Barrier 1))
    ∷ turn 0 Drawn
    ∷ turn 1 (Offered 0 (Element 2))
    ∷ turn 0 (Offered 0 (Barrier 1))
    ∷ turn 1 (Offered 0 (Element 1))
    ∷ turn 0 Drawn
    ∷ turn 0 Drawn
    ∷ []

abbrev pub restart : Restart
restart = record { stage = record { job = job; spread = spread; from = starts job; history = failed }; record_id = 1; earlier = [] }

-- Then each key has a subtask, and begins with what the record has for it: the source with 3, key 0 with the sum 2, and key 1
-- with 1. The source emits 3 again, and key 1 takes it.
abbrev pub given : States
given t = if t.vertex == 0 then 3 else (if t.index == 0 then 2 else 1)

abbrev pub again : Run
again = record { task = subtask 1 1; what = Takes 0 3 } ∷ by 0 Draws ∷ []

abbrev pub reshaped : Stage
reshaped = record { job = keys; spread = finest; from = given; history = history_of again }

pub both_failed : states_in job (starts job) failed (subtask 1 0) ≡ 12
unfolding step barrier settled
both_failed = refl

pub recorded_source : recorded keys (restart ∷ []) (subtask 0 0) ≡ 3
unfolding step barrier settled
recorded_source = refl

pub recorded_1 : recorded keys (restart ∷ []) (subtask 1 1) ≡ 1
unfolding step barrier settled
recorded_1 = refl

pub sum_of_1 : states_after keys given again (subtask 1 1) ≡ 4
sum_of_1 = refl

-- What key 1 published up to the record is its sum 1, and what it writes then is 4.
abbrev sink : Sink
sink = record { task = subtask 1 1; output = 0 }

pub published : published_before sink (restart ∷ []) ≡ 11 ∷ []
unfolding step barrier settled
published = refl

pub written_then : written keys given again sink ≡ 41 ∷ []
written_then = refl
