-- What a line says, or the first fault from the left.
use Rattle.std.specs.Prelude.{◌≡◌, ℕ, Bool, true, false, not, ◌&&◌, ◌==◌, nat_lt, List, [], ◌∷◌, length, slice_index, if◌then◌else◌, Option, Some, None, is_ok, Result, Ok, Err}
use Rattle.std.specs.List.{filter_map}
use Rattle.std.specs.Str.Lines.{strip_carriage_return}
use Rattle.ckpt_ids.specs.declared.subtask.SubtaskId.{SubtaskId}
use Rattle.ckpt_ids.specs.declared.config.ConfigValues.{ConfigValues}
use Rattle.ckpt_ids.specs.declared.call.Call as calls
use Rattle.ckpt_ids.specs.declared.call.Call.TheVariants as call
use Rattle.ckpt_ids.specs.declared.call.Target.{Target}
use Rattle.ckpt_ids.specs.Ascending.{ascending}
use Rattle.ckpt_ids.specs.Shapes.{is_shape}
use Rattle.ckpt_lines.specs.declared.fault.LineFault.{LineFault}
use Rattle.ckpt_lines.specs.declared.fault.LineFault.TheVariants as fault
use Rattle.ckpt_lines.specs.declared.keyword.Keyword.{Keyword}
use Rattle.ckpt_lines.specs.declared.keyword.Keyword.TheVariants as keyword
use Rattle.ckpt_lines.specs.declared.limits.TheConstants.{LONGEST_LINE}
use Rattle.ckpt_lines.specs.declared.line.Line.{Line}
use Rattle.ckpt_lines.specs.declared.line.Line.TheVariants.{Skip, Config, Job, Start, Call, BadShape, All}
use Rattle.ckpt_lines.specs.declared.values.FileWord.{FileWord}
use Rattle.ckpt_lines.specs.Bytes.{hash}
use Rattle.ckpt_lines.specs.Keywords.{keyword_of, spelling}
use Rattle.ckpt_lines.specs.Values.{number, subtask, retention, target_of, file_word, fresh_file, reused_file}
use Rattle.ckpt_lines.specs.Words.{words_of}

infixl 10 ◌>>=◌
abbrev pub ◌>>=◌ : {A B : Type 0} → Result A LineFault → (A → Result B LineFault) → Result B LineFault
(Ok x) >>= f = f x
(Err why) >>= f = Err why

-- the next word, read so, and the words after it
abbrev pub place : {X : Type 0} → (List ℕ → Result X LineFault) → List (List ℕ) → Result (X × List (List ℕ)) LineFault
place read [] = Err fault.Missing
place read (word ∷ words) = do
  x ← read word
  Ok (x, words)

unfoldable pub number_place : List (List ℕ) → Result (ℕ × List (List ℕ)) LineFault
number_place words = place number words

unfoldable pub subtask_place : List (List ℕ) → Result (SubtaskId × List (List ℕ)) LineFault
subtask_place words = place subtask words

unfoldable pub retention_place : List (List ℕ) → Result (Bool × List (List ℕ)) LineFault
retention_place words = place retention words

unfoldable pub target_place : List (List ℕ) → Result (Target × List (List ℕ)) LineFault
target_place words = place target_of words

-- the next file word, if there is a word
unfoldable pub file_place : List (List ℕ) → Result (Option FileWord × List (List ℕ)) LineFault
file_place [] = Ok (None, [])
file_place (word ∷ words) = do
  file ← file_word word
  Ok (Some file, words)

-- no word may follow
unfoldable pub ended : List (List ℕ) → Result (Unit {0}) LineFault
ended [] = Ok tt
ended (_ ∷ _) = Err fault.Extra

-- all words that are left
unfoldable pub each : {X : Type 0} → (List ℕ → Result X LineFault) → List (List ℕ) → Result (List X) LineFault
each read [] = Ok []
each read (word ∷ words) = do
  x ← read word
  xs ← each read words
  Ok (x ∷ xs)

-- the seven settings, and nothing after them
unfoldable pub settings : List (List ℕ) → Result ConfigValues LineFault
settings words = do
  interval ← number_place words
  pause ← number_place interval.1
  at_once ← number_place pause.1
  timeout ← number_place at_once.1
  tolerable ← number_place timeout.1
  retained ← number_place tolerable.1
  keep ← retention_place retained.1
  _ ← ended keep.1
  Ok (record {
    interval = interval.0;
    pause = pause.0;
    at_once = at_once.0;
    timeout = timeout.0;
    tolerable = tolerable.0;
    retained = retained.0;
    keep_on_cancel = keep.0;
  })

unfoldable pub config_line : List (List ℕ) → Result Line LineFault
config_line words = do
  v ← settings words
  Ok (Config v.interval v.pause v.at_once v.timeout v.tolerable v.retained v.keep_on_cancel)

abbrev pub some_parallelisms : List ℕ → Result Line LineFault
some_parallelisms [] = Err fault.Missing
some_parallelisms (first ∷ others) = Ok (Job (first ∷ others))

unfoldable pub job_line : List (List ℕ) → Result Line LineFault
job_line words = do
  parallelisms ← each number words
  some_parallelisms parallelisms

-- one number and nothing after it
unfoldable pub only_number : List (List ℕ) → Result ℕ LineFault
only_number words = do
  n ← number_place words
  _ ← ended n.1
  Ok n.0

unfoldable pub start_line : List (List ℕ) → Result Line LineFault
start_line words = do
  now ← only_number words
  Ok (Start now)

-- the call of a line of this keyword with one number
abbrev pub number_call : Keyword → ℕ → calls.Call
number_call keyword.Tick now = call.Tick now
number_call keyword.Savepoint now = call.Savepoint now
number_call keyword.Dispose id = call.Dispose id
number_call keyword.Cancel now = call.Cancel now
number_call keyword.Take most = call.Take most
number_call keyword.Deleted file = call.Deleted file
number_call keyword.Undeleted file = call.Undeleted file
number_call keyword.Show id = call.Show id
-- the only other keyword with such a line is `count`
number_call _ file = call.Count file

unfoldable pub number_line : Keyword → List (List ℕ) → Result Line LineFault
number_line first words = do
  n ← only_number words
  Ok (Call (number_call first n))

-- the fresh files and the reused ones, for any order of the words
unfoldable pub file_places : List (List ℕ) → Result (List ℕ × List ℕ) LineFault
file_places words = do
  files ← each file_word words
  Ok (ascending (filter_map fresh_file files), ascending (filter_map reused_file files))

unfoldable pub ack_line : List (List ℕ) → Result Line LineFault
ack_line words = do
  now ← number_place words
  id ← number_place now.1
  subtask ← subtask_place id.1
  files ← file_places subtask.1
  Ok (Call (call.Ack now.0 id.0 subtask.0 files.0 files.1))

unfoldable pub decline_line : List (List ℕ) → Result Line LineFault
decline_line words = do
  now ← number_place words
  id ← number_place now.1
  subtask ← subtask_place id.1
  _ ← ended subtask.1
  Ok (Call (call.Decline now.0 id.0 subtask.0))

-- the parallelisms of a `restore`, if it has any, are the new shape
abbrev pub is_new_shape : List ℕ → Bool
is_new_shape [] = true
is_new_shape (p ∷ ps) = is_shape (p ∷ ps)

abbrev pub new_shape : List ℕ → Option (List ℕ)
new_shape [] = None
new_shape (p ∷ ps) = Some (p ∷ ps)

abbrev pub restoring : ℕ → Target → List ℕ → Line
restoring now target ps = if is_new_shape ps then Call (call.Restore now target (new_shape ps)) else BadShape

unfoldable pub restore_line : List (List ℕ) → Result Line LineFault
restore_line words = do
  now ← number_place words
  target ← target_place now.1
  parallelisms ← each number target.1
  Ok (restoring now.0 target.0 parallelisms)

unfoldable pub all_line : List (List ℕ) → Result Line LineFault
all_line words = do
  now ← number_place words
  id ← number_place now.1
  threads ← number_place id.1
  first ← number_place threads.1
  _ ← ended first.1
  Ok (All now.0 id.0 threads.0 first.0)

-- the words after the first
unfoldable pub row : Keyword → List (List ℕ) → Result Line LineFault
row keyword.Config words = config_line words
row keyword.Job words = job_line words
row keyword.Start words = start_line words
row keyword.Ack words = ack_line words
row keyword.Decline words = decline_line words
row keyword.Restore words = restore_line words
row keyword.All words = all_line words
row first words = number_line first words

abbrev pub row_of : Option Keyword → List (List ℕ) → Result Line LineFault
row_of None words = Err fault.Word
row_of (Some first) words = row first words

abbrev pub is_comment : List ℕ → Bool
is_comment word = slice_index word 0 == hash

unfoldable pub line_of : List (List ℕ) → Result Line LineFault
line_of [] = Ok Skip
line_of (word ∷ words) = if is_comment word then Ok Skip else row_of (keyword_of word) words

-- a carriage return at the end counts as a byte, and is no part of a word
abbrev pub is_too_long : List ℕ → Bool
is_too_long line = nat_lt LONGEST_LINE (length line)

unfoldable pub reading : List ℕ → Result Line LineFault
reading line = if is_too_long line then Err fault.TooLong else line_of (words_of (strip_carriage_return line))

abbrev pub begins_with_a_number : List (List ℕ) → Bool
begins_with_a_number [] = false
begins_with_a_number (word ∷ words) = is_ok (number word)

-- true, and read without a fault
abbrev pub is_yes : Result Bool LineFault → Bool
is_yes (Ok b) = b
is_yes (Err why) = false

-- whether the files of an `ack` are reached: the words before them have no fault
unfoldable pub reaches_files : List (List ℕ) → Bool
reaches_files words = is_yes (do
  now ← number_place words
  id ← number_place now.1
  subtask ← subtask_place id.1
  Ok true)

-- and whether a parallelism of a `restore` is read
unfoldable pub reaches_a_shape : List (List ℕ) → Bool
reaches_a_shape words = is_yes (do
  now ← number_place words
  target ← target_place now.1
  Ok (begins_with_a_number target.1))

-- `ack`, `job` and `restore` have lists. Memory is taken only once the words before the list were read, and of numbers the first one.
abbrev pub reaches_a_list : Keyword → List (List ℕ) → Bool
reaches_a_list keyword.Ack words = reaches_files words
reaches_a_list keyword.Job words = begins_with_a_number words
reaches_a_list keyword.Restore words = reaches_a_shape words
reaches_a_list first words = false

abbrev pub row_reaches_a_list : Option Keyword → List (List ℕ) → Bool
row_reaches_a_list None words = false
row_reaches_a_list (Some first) words = reaches_a_list first words

abbrev pub begins_with_a_list : List (List ℕ) → Bool
begins_with_a_list [] = false
begins_with_a_list (word ∷ words) = row_reaches_a_list (keyword_of word) words

unfoldable pub may_want_memory : List ℕ → Bool
may_want_memory line = not (is_too_long line) && begins_with_a_list (words_of (strip_carriage_return line))

abbrev pub is_memory : LineFault → Bool
is_memory fault.Memory = true
is_memory why = false

-- A function that takes no memory gave what the reading gives.
abbrev pub IsExact : {X : Type 0} → Result X LineFault → Result X LineFault → Type 0
IsExact (Ok x) read = read ≡ Ok x
IsExact (Err why) read = (read ≡ Err why) × (is_memory why ≡ false)

-- The same of a place, which leaves these words.
abbrev pub Gives : {X : Type 0} → Result X LineFault → List (List ℕ) → Result (X × List (List ℕ)) LineFault → Type 0
Gives (Ok x) words read = read ≡ Ok (x, words)
Gives (Err why) words read = (read ≡ Err why) × (is_memory why ≡ false)

-- A function gave what the reading gives, unless memory ran out.
abbrev pub Reads : {X : Type 0} → Result X LineFault → Result X LineFault → Type 0
Reads (Ok x) read = read ≡ Ok x
Reads (Err why) read = is_memory why ≡ false → read ≡ Err why

-- A keyword was taken from the start of the words, or none was.
abbrev pub Takes : Option Keyword → List (List ℕ) → List (List ℕ) → Type 0
Takes None before after = after ≡ before
Takes (Some first) before after = before ≡ spelling first ∷ after

-- What the first word says, and the words after it: the kind of the line, or that it is skipped.
abbrev pub Begins : Result (Option Keyword) LineFault → List (List ℕ) → List (List ℕ) → Type 0
Begins (Ok (Some first)) before after = (line_of before ≡ row first after) × (begins_with_a_list before ≡ reaches_a_list first after)
Begins (Ok None) before after = line_of before ≡ Ok Skip
Begins (Err why) before after = (line_of before ≡ Err why) × (is_memory why ≡ false)
