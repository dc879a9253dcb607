-- Restarts in other shapes. In the job of the keys each key of a vertex is a task by itself, with a state, inputs and outputs
-- of its own: there nothing depends on the order between keys. In a shape a subtask has several keys.
use Rattle.std.specs.Prelude.{◌≡◌, ℕ, ◌≤◌, Bool, true, List, [], ◌∷◌, ◌++◌}
use Rattle.std.specs.List.{filter}
use Rattle.ckpt_ids.specs.{declared.subtask.SubtaskId.SubtaskId, Ordered.IsIn}
use Rattle.ckpt_align.specs.Laws.{Channel}
use Rattle.ckpt_model.specs.State.{Opening}
use Rattle.ckpt_once.specs.Programs.{Emitted, Move, from_input, on_output}
use Rattle.ckpt_once.specs.Jobs.{By, History, IsHistory, IsJob, IsMoveOf, IsPrefix, IsQuiet, IsRun, Job, Run, States, before_cuts, run_of, snapshots, starts, states_after, states_in, taken_off}
use Rattle.ckpt_once.specs.Restarts.{WasDone}
use Rattle.ckpt_once.specs.Sinks.{Sink, published_in, written}

-- how the subtasks of a job have the keys
pub record Spread : Type 0 where
  -- the subtask that a key belongs to
  pub owner : (key : SubtaskId) → SubtaskId
  -- the state of a key, in the state of its subtask
  pub part : (key : SubtaskId) → (state : ℕ) → ℕ
  -- the key that a move of a subtask is for, and its move
  pub mover : (task : SubtaskId) → (state : ℕ) → (move : Move) → By Move
  -- the output of the subtask that has this output of a key
  pub output : Sink → ℕ
  -- whether an element on it is of that output of that key
  pub is_from : Sink → (element : ℕ) → Bool
  -- the input of the subtask that has this input of a key
  pub input : (key : SubtaskId) → (input : ℕ) → ℕ

abbrev pub key_states : Spread → States → States
key_states spread states k = spread.part k (states (spread.owner k))

-- the output of a key that a channel begins at
abbrev pub outlet : Channel → Sink
outlet c = record { task = c.sender; output = c.output }

abbrev pub sink_over : Spread → Sink → Sink
sink_over spread sink = record { task = spread.owner sink.task; output = spread.output sink }

-- the channel between subtasks that has what goes from one key to another
abbrev pub channel_over : Spread → Channel → Channel
channel_over spread c = record {
  sender = spread.owner c.sender;
  output = spread.output (outlet c);
  receiver = spread.owner c.receiver;
  input = spread.input c.receiver c.input;
}

-- the states that the keys have in this state of their subtask
abbrev pub parts : Spread → (state : ℕ) → States
parts spread state k = spread.part k state

-- what a key's output has of what a subtask emits
abbrev pub emitted_of : Spread → Sink → List Emitted → List ℕ
emitted_of spread sink ones = filter (spread.is_from sink) (on_output (spread.output sink) ones)

-- what a key's channel has of what a subtask takes
abbrev pub taken_of : Spread → Channel → Move → List ℕ
taken_of spread c move = filter (spread.is_from (outlet c)) (from_input (spread.input c.receiver c.input) (move ∷ []))

-- A move of a subtask is one move of one of its keys: it changes the state of that key alone, and takes and emits what that
-- key does in its state.
pub record IsOfKey (keys job : Job) (spread : Spread) (task : SubtaskId) (state : ℕ) (move : Move) : Type 0 where
  -- the key may make this move
  pub is_move : IsMoveOf keys (spread.mover task state move).task (spread.mover task state move).what
  -- each key of the subtask is then in the state that the move of the one leads to
  pub changes : (k : SubtaskId) → IsIn k keys.tasks → spread.owner k ≡ task
      → spread.part k ((job.program task).next state move) ≡ states_after keys (parts spread state) (spread.mover task state move ∷ []) k
  -- each output of a key has of it what that key emits
  pub emits : (sink : Sink) → IsIn sink.task keys.tasks → spread.owner sink.task ≡ task
      → emitted_of spread sink ((job.program task).emits state move) ≡ written keys (parts spread state) (spread.mover task state move ∷ []) sink
  -- and each channel to a key gives what that key takes
  pub takes : (c : Channel) → IsIn c keys.channels → spread.owner c.receiver ≡ task
      → taken_of spread c move ≡ taken_off (spread.mover task state move ∷ []) c

abbrev pub IsForOwn : Spread → SubtaskId → ℕ → Move → Type 0
IsForOwn spread task state move = spread.owner (spread.mover task state move).task ≡ task

-- a job in a shape, over the job of the keys
pub record IsShapeOf (keys job : Job) (spread : Spread) : Type 0 where
  pub tasks : (k : SubtaskId) → IsIn k keys.tasks → IsIn (spread.owner k) job.tasks
  pub channels : (c : Channel) → IsIn c keys.channels → IsIn (channel_over spread c) job.channels
  pub of_keys : (task : SubtaskId) (state : ℕ) (move : Move) → IsMoveOf job task move → IsForOwn spread task state move → IsOfKey keys job spread task state move

-- each key a subtask by itself
abbrev pub finest : Spread
finest = record {
  owner = λ key. key;
  part = λ key state. state;
  mover = λ task state move. record { task = task; what = move };
  output = λ sink. sink.output;
  is_from = λ sink element. true;
  input = λ key input. input;
}

-- the exchange brings a subtask only what is for its own keys
abbrev pub IsRoutedByKey : Job → Spread → States → Run → Type 0
IsRoutedByKey job spread from [] = Unit {0}
IsRoutedByKey job spread from (step ∷ run) = IsRoutedByKey job spread from run × IsForOwn spread step.task (states_after job from run step.task) step.what

-- what a job does in one shape, from the states that it begins with
pub record Stage : Type 0 where
  pub job : Job
  pub spread : Spread
  pub from : States
  pub history : History

-- a stage that has ended, and the record that the next one was restored to
pub record Restart : Type 0 where
  pub stage : Stage
  pub record_id : ℕ
  -- the records that had been completed before
  pub earlier : List ℕ

-- the states of the keys that the last record has
abbrev pub recorded : Job → List Restart → States
recorded keys [] = starts keys
recorded keys (restart ∷ restarts) =
    let s : Stage = restart.stage in key_states s.spread (snapshots restart.record_id s.job s.from s.history)

-- A stage begins: the state of each key of the job goes to its new subtask.
pub record IsBegun (keys : Job) (states : States) (stage : Stage) : Type 0 where
  pub is_job : IsJob stage.job
  pub is_shape : IsShapeOf keys stage.job stage.spread
  pub is_given : (k : SubtaskId) → IsIn k keys.tasks → key_states stage.spread stage.from k ≡ states k
  pub is_history : IsHistory stage.job stage.from stage.history

-- It ends: the record was done, and no later one was completed before. What came before its cuts was routed.
pub record IsEnded (o : Opening) (n : ℕ) (earlier : List ℕ) (stage : Stage) : Type 0 where
  pub was_done : WasDone n o stage.job stage.from stage.history
  pub is_last : (m : ℕ) → IsIn m earlier → m ≤ n
  pub is_routed : IsRoutedByKey stage.job stage.spread stage.from (run_of stage.job (before_cuts n stage.job stage.from stage.history))

abbrev pub AreRestarts : Opening → Job → List Restart → Type 0
AreRestarts o keys [] = Unit {0}
AreRestarts o keys (restart ∷ restarts) =
    AreRestarts o keys restarts × IsBegun keys (recorded keys restarts) restart.stage × IsEnded o restart.record_id restart.earlier restart.stage

-- what is published of a key's output if these records are completed
abbrev pub published_now : Stage → Sink → List ℕ → List ℕ
published_now stage sink completed = filter (stage.spread.is_from sink) (published_in stage.job stage.from stage.history (sink_over stage.spread sink) completed)

abbrev pub published_before : Sink → List Restart → List ℕ
published_before sink [] = []
published_before sink (restart ∷ restarts) = published_before sink restarts ++ published_now restart.stage sink (restart.earlier ++ restart.record_id ∷ [])

-- One run of the job of the keys from its start, without a failure or another shape, that has the states of all keys, and
-- writes what was published.
pub record IsSeamlessByKey (keys : Job) (restarts : List Restart) (stage : Stage) : Type 0 where
  -- up to the record that the job was restored to last, and since then
  pub first : Run
  pub later : Run
  pub is_run : IsRun keys (starts keys) (later ++ first)
  pub is_quiet : IsQuiet keys (starts keys) first
  pub has_states : (k : SubtaskId) → IsIn k keys.tasks
      → key_states stage.spread (states_in stage.job stage.from stage.history) k ≡ states_after keys (starts keys) (later ++ first) k
  -- each element that a key wrote up to the record was published, once
  pub was_published : (sink : Sink) → IsIn sink.task keys.tasks → published_before sink restarts ≡ written keys (starts keys) first sink
  -- and nothing that it does not write, in this order
  pub is_published : (sink : Sink) (completed : List ℕ) → IsIn sink.task keys.tasks
      → IsPrefix (published_before sink restarts ++ published_now stage sink completed) (written keys (starts keys) (later ++ first) sink)

-- Failures and other shapes are invisible, key by key.
abbrev pub ReshapingInvisible : Opening → Job → List Restart → Stage → Type 0
ReshapingInvisible o keys restarts stage =
    IsJob keys
    → AreRestarts o keys restarts
    → IsBegun keys (recorded keys restarts) stage
    → IsRoutedByKey stage.job stage.spread stage.from (run_of stage.job stage.history)
    → IsSeamlessByKey keys restarts stage
