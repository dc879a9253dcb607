-- Jobs, their runs without failures, and their histories in an engine. All these lists have the newest first.
use Rattle.std.specs.Prelude.{◌≡◌, ℕ, ◌<◌, Bool, ◌||◌, List, [], ◌∷◌, ◌++◌, if◌then◌else◌, Option, Some, None}
use Rattle.ckpt_ids.specs.{declared.subtask.SubtaskId.SubtaskId, Ordered.IsIn, Shapes.same_subtask}
use Rattle.ckpt_align.specs.Alignment.{opened}
use Rattle.ckpt_align.specs.Histories.{Item, Element, has_cut, has_ended}
use Rattle.ckpt_align.specs.Laws.{Channel, HasCut, Network, Task, sent_on, taken_from}
use Rattle.ckpt_once.specs.Programs.{Program, Move, Takes, Draws, Turn, Offered, Drawn, state, emitted, on_output, from_input, move_in, with_one, aligned, moves_in, actions}

pub record Job : Type 0 where
  pub tasks : List SubtaskId
  -- those that make steps of their own
  pub sources : List SubtaskId
  pub program : SubtaskId → Program
  pub inputs : SubtaskId → ℕ
  pub channels : List Channel

-- Each channel leads from a task of the job to an input of one. With two channels into one input few histories exist
-- (`GivesInOrder`), so an engine has an input for each channel.
abbrev pub IsJob : Job → Type 0
IsJob job = (c : Channel) → IsIn c job.channels → IsIn c.sender job.tasks × IsIn c.receiver job.tasks × (c.input < job.inputs c.receiver)

-- a move or a turn of a task
pub record By (X : Type 0) : Type 0 where
  pub task : SubtaskId
  pub what : X

abbrev pub Run : Type 0
Run = List (By Move)

abbrev pub History : Type 0
History = List (By Turn)

-- the state of each task
abbrev pub States : Type 0
States = SubtaskId → ℕ

abbrev pub starts : Job → States
starts job t = (job.program t).start

-- those of one task
abbrev pub of : {X : Type 0} → SubtaskId → List (By X) → List X
of t [] = []
of t (one ∷ ones) = if same_subtask one.task t then one.what ∷ of t ones else of t ones

abbrev pub IsPrefix : List ℕ → List ℕ → Type 0
IsPrefix xs ys = (rest : List ℕ) × (ys ≡ xs ++ rest)

-- RUNS: what a job does without barriers, records and failures

abbrev pub states_after : Job → States → Run → States
states_after job from run t = state (job.program t) (from t) (of t run)

-- what is put on a channel, and what is taken from it
abbrev pub put_on : Job → States → Run → Channel → List ℕ
put_on job from run c = on_output c.output (emitted (job.program c.sender) (from c.sender) (of c.sender run))

abbrev pub taken_off : Run → Channel → List ℕ
taken_off run c = from_input c.input (of c.receiver run)

-- a channel leads to this input
abbrev pub IsFed : Job → SubtaskId → ℕ → Type 0
IsFed job t i = (c : Channel) × IsIn c job.channels × (c.receiver ≡ t) × (c.input ≡ i)

-- a move of a task of the job; elements come by channels only, and sources make steps of their own
abbrev pub IsMoveOf : Job → SubtaskId → Move → Type 0
IsMoveOf job t (Takes i x) = IsIn t job.tasks × IsFed job t i
IsMoveOf job t Draws = IsIn t job.tasks × IsIn t job.sources

-- Tasks move in any order; each element that was taken had been put on its channel in earlier moves, and in this order.
abbrev pub IsRun : Job → States → Run → Type 0
IsRun job from [] = Unit {0}
IsRun job from (step ∷ run) =
    IsRun job from run
    × IsMoveOf job step.task step.what
    × ((c : Channel) → IsIn c job.channels → IsPrefix (taken_off (step ∷ run) c) (put_on job from run c))

-- nothing is on the way
abbrev pub IsQuiet : Job → States → Run → Type 0
IsQuiet job from run = (c : Channel) → IsIn c job.channels → put_on job from run c ≡ taken_off run c

-- HISTORIES: what a job does in an engine, from the states that it was started with until it fails

-- the job as a network of `ckpt_align`
abbrev pub network : Job → States → History → Network
network job from h = record {
  task = λ t. record { inputs = job.inputs t; actions = actions (job.program t) (from t) (opened (job.inputs t)) (of t h) };
  channels = job.channels;
}

-- A turn of a task of the job. Elements come by channels only; barriers and ends may also come from elsewhere, as the
-- coordinator's orders to a source do. A task that has ended may take turns, which count: the laws hold of these histories too.
abbrev pub IsTurnOf : Job → SubtaskId → Turn → Type 0
IsTurnOf job t (Offered i (Element x)) = IsIn t job.tasks × IsFed job t i
IsTurnOf job t Drawn = IsIn t job.tasks × IsIn t job.sources
IsTurnOf job t turn = IsIn t job.tasks

-- what a channel has given by now had been put on it before, in this order
abbrev pub GivesInOrder : Network → Network → Channel → Type 0
GivesInOrder before now c = (on_the_way : List Item) × (sent_on before c ≡ taken_from now c ++ on_the_way)

-- Tasks take turns in any order. Channels, which were empty at the start, keep their order: they lose, double and
-- overtake nothing. A turn stands where it began.
abbrev pub IsHistory : Job → States → History → Type 0
IsHistory job from [] = Unit {0}
IsHistory job from (event ∷ h) =
    IsHistory job from h
    × IsTurnOf job event.task event.what
    × ((c : Channel) → IsIn c job.channels → GivesInOrder (network job from h) (network job from (event ∷ h)) c)

-- the states of the tasks
abbrev pub states_in : Job → States → History → States
states_in job from h t = state (job.program t) (from t) (moves_in (opened (job.inputs t)) (of t h))

abbrev pub as_step : SubtaskId → Option Move → Option (By Move)
as_step t None = None
as_step t (Some move) = Some (record { task = t; what = move })

-- the moves that the tasks make
abbrev pub run_of : Job → History → Run
run_of job [] = []
run_of job (event ∷ h) = with_one (as_step event.task (move_in (aligned (opened (job.inputs event.task)) (of event.task h)) event.what)) (run_of job h)

-- a task has cut a record, or has ended
abbrev pub has_stopped : ℕ → Task → Bool
has_stopped n t = has_cut n (opened t.inputs) t.actions || has_ended t.actions

-- what the tasks did before their cuts of a record
abbrev pub before_cuts : ℕ → Job → States → History → History
before_cuts n job from [] = []
before_cuts n job from (event ∷ h) =
    if has_stopped n ((network job from (event ∷ h)).task event.task) then before_cuts n job from h else event ∷ before_cuts n job from h

-- The snapshots of a record: each task's state before its cut.
abbrev pub snapshots : ℕ → Job → States → History → States
snapshots n job from h = states_in job from (before_cuts n job from h)

-- each task has cut the record
abbrev pub HaveCut : ℕ → Job → States → History → Type 0
HaveCut n job from h = (t : SubtaskId) → IsIn t job.tasks → HasCut n ((network job from h).task t)

-- FAILURES

-- What the job did between two starts, and the record that it was then restored to, which each task had cut. Attempts
-- after that record, or in which none was completed, have left nothing, and are not listed.
pub record Attempt : Type 0 where
  pub history : History
  pub record_id : ℕ
  -- the records that had been completed before, for what sinks publish
  pub earlier : List ℕ

-- the states that the job is restored to: the snapshots of the last record; the starts before the first
abbrev pub restored : Job → List Attempt → States
restored job [] = starts job
restored job (attempt ∷ attempts) = snapshots attempt.record_id job (restored job attempts) attempt.history

abbrev pub AreAttempts : Job → List Attempt → Type 0
AreAttempts job [] = Unit {0}
AreAttempts job (attempt ∷ attempts) =
    AreAttempts job attempts
    × IsHistory job (restored job attempts) attempt.history
    × HaveCut attempt.record_id job (restored job attempts) attempt.history

-- the moves before the cuts of the records that the job was restored to, one attempt behind the other
abbrev pub run_of_attempts : Job → List Attempt → Run
run_of_attempts job [] = []
run_of_attempts job (attempt ∷ attempts) =
    run_of job (before_cuts attempt.record_id job (restored job attempts) attempt.history) ++ run_of_attempts job attempts
