-- A worked example: a job of two keys, and the same job with one subtask for both. The expected values were written by hand.
use Rattle.std.specs.Prelude.{◌≡◌, ◌==◌, ◌&&◌, ◌+◌, ◌*◌, ◌/◌, ◌%◌, ℕ, Bool, if◌then◌else◌, List, [], ◌∷◌, refl}
use Rattle.std.specs.List.{filter}
use Rattle.ckpt_ids.specs.declared.subtask.SubtaskId.{SubtaskId}
use Rattle.ckpt_align.specs.Laws.{Channel}
use Rattle.ckpt_once.specs.Programs.{Emitted, Move, Program, Takes, Draws}
use Rattle.ckpt_once.specs.Jobs.{By, Job, Run, put_on, starts, states_after, taken_off}
use Rattle.ckpt_once.specs.{PlainHistories.history_of, Sinks.Sink, Sinks.written}
use Rattle.ckpt_other_cuts.specs.Reshaped.{Spread, Stage, channel_over, key_states, outlet, sink_over}

abbrev pub subtask : ℕ → ℕ → SubtaskId
subtask vertex index = record { vertex = vertex; index = index }

abbrev pub on : ℕ → ℕ → Emitted
on output element = record { output = output; element = element }

-- The source counts. Where it has an output for each key, the even numbers go to key 0 and the odd ones to key 1.
abbrev pub counts : (ℕ → ℕ) → Program
counts output_of = record { start = 1; next = λ n move. n + 1; emits = λ n move. on (output_of n) n ∷ [] }

-- a key's sum, below 10; its output tells the key
abbrev pub sum_with : ℕ → Move → ℕ
sum_with s (Takes i x) = (s + x) % 10
sum_with s Draws = s

abbrev pub sum_on : ℕ → ℕ → Move → List Emitted
sum_on key s (Takes i x) = on 0 (key + 10 * ((s + x) % 10)) ∷ []
sum_on key s Draws = []

abbrev pub sums : ℕ → Program
sums key = record { start = 0; next = sum_with; emits = sum_on key }

-- both sums in one number, that of key 0 in its last digit
abbrev pub both_with : ℕ → Move → ℕ
both_with s (Takes i x) = if x % 2 == 0 then (s % 10 + x) % 10 + 10 * (s / 10) else s % 10 + 10 * ((s / 10 + x) % 10)
both_with s Draws = s

abbrev pub both_on : ℕ → Move → List Emitted
both_on s (Takes i x) = if x % 2 == 0 then sum_on 0 (s % 10) (Takes i x) else sum_on 1 (s / 10) (Takes i x)
both_on s Draws = []

abbrev pub line : ℕ → Channel
line key = record { sender = subtask 0 0; output = key; receiver = subtask 1 key; input = 0 }

abbrev pub keys : Job
keys = record {
  tasks = subtask 0 0 ∷ subtask 1 0 ∷ subtask 1 1 ∷ [];
  sources = subtask 0 0 ∷ [];
  program = λ t. if t.vertex == 0 then counts (λ n. n % 2) else sums t.index;
  inputs = λ t. 1;
  channels = line 0 ∷ line 1 ∷ [];
}

abbrev pub job : Job
job = record {
  tasks = subtask 0 0 ∷ subtask 1 0 ∷ [];
  sources = subtask 0 0 ∷ [];
  program = λ t. if t.vertex == 0 then counts (λ n. 0) else record { start = 0; next = both_with; emits = both_on };
  inputs = λ t. 1;
  channels = line 0 ∷ [];
}

abbrev pub key_of : SubtaskId → Move → SubtaskId
key_of t (Takes i x) = subtask 1 (x % 2)
key_of t Draws = t

-- The source has its number, and the subtask both sums. No other key has a state here.
abbrev pub part_of : SubtaskId → ℕ → ℕ
part_of key s = if key.vertex == 0 then (if key.index == 0 then s else 0) else (if key.index == 0 then s % 10 else (if key.index == 1 then s / 10 else 0))

abbrev pub is_out_of : Sink → ℕ → Bool
is_out_of sink x = if sink.task.vertex == 0 then (sink.task.index == 0) && (x % 2 == sink.output) else (x % 10 == sink.task.index) && (sink.output == 0)

abbrev pub spread : Spread
spread = record {
  owner = λ key. subtask key.vertex 0;
  part = part_of;
  mover = λ t s move. record { task = key_of t move; what = move };
  output = λ sink. 0;
  is_from = is_out_of;
  input = λ key input. input;
}

-- The source emits 1, 2 and 3. The subtask takes them.
abbrev pub by : ℕ → Move → By Move
by vertex move = record { task = subtask vertex 0; what = move }

abbrev pub run : Run
run = by 1 (Takes 0 3) ∷ by 1 (Takes 0 2) ∷ by 0 Draws ∷ by 1 (Takes 0 1) ∷ by 0 Draws ∷ by 0 Draws ∷ []

pub both_sums : states_after job (starts job) run (subtask 1 0) ≡ 42
both_sums = refl

pub sum_of_0 : key_states spread (states_after job (starts job) run) (subtask 1 0) ≡ 2
sum_of_0 = refl

pub sum_of_1 : key_states spread (states_after job (starts job) run) (subtask 1 1) ≡ 4
sum_of_1 = refl

-- the stage in which it does, from the start: no barrier comes
abbrev pub stage : Stage
stage = record { job = job; spread = spread; from = starts job; history = history_of run }

-- The keys do the same, each by itself.
abbrev key_run : Run
key_run =
    record { task = subtask 1 1; what = Takes 0 3 } ∷ record { task = subtask 1 0; what = Takes 0 2 } ∷ by 0 Draws ∷ record { task = subtask 1 1; what = Takes 0 1 } ∷ by 0 Draws ∷ by 0 Draws ∷ []

pub alone_0 : states_after keys (starts keys) key_run (subtask 1 0) ≡ 2
alone_0 = refl

pub alone_1 : states_after keys (starts keys) key_run (subtask 1 1) ≡ 4
alone_1 = refl

-- On the one channel between the subtasks there is what goes to each key.
pub is_over : channel_over spread (line 1) ≡ line 0
is_over = refl

pub on_line : put_on job (starts job) run (line 0) ≡ 1 ∷ 2 ∷ 3 ∷ []
on_line = refl

pub on_line_to_1 : filter (spread.is_from (outlet (line 1))) (put_on job (starts job) run (line 0)) ≡ 1 ∷ 3 ∷ []
on_line_to_1 = refl

pub on_line_1 : put_on keys (starts keys) key_run (line 1) ≡ 1 ∷ 3 ∷ []
on_line_1 = refl

pub taken_1 : taken_off key_run (line 1) ≡ 1 ∷ 3 ∷ []
taken_1 = refl

-- What key 1 writes: its sums 1 and 4.
abbrev sink : Sink
sink = record { task = subtask 1 1; output = 0 }

pub written_by_both : written job (starts job) run (sink_over spread sink) ≡ 11 ∷ 20 ∷ 41 ∷ []
written_by_both = refl

pub written_by_1 : filter (spread.is_from sink) (written job (starts job) run (sink_over spread sink)) ≡ 11 ∷ 41 ∷ []
written_by_1 = refl

pub written_alone : written keys (starts keys) key_run sink ≡ 11 ∷ 41 ∷ []
written_alone = refl
