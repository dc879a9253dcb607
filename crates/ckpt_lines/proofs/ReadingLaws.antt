-- The reading of a line never says that memory ran out.
use Rattle.ckpt_lines.proofs.Names.{◌≡◌, ◌≢◌, ℕ, Bool, false, cond, List, [], ◌∷◌, Option, Result, Ok, Err, IfErr, refl, codes, ok_or, bytes_eq, strip_carriage_return, SubtaskId, LineFault, Keyword}
use Rattle.ckpt_lines.proofs.Names.{Line, FileWord, ◌>>=◌, is_memory, place, number_place, subtask_place, retention_place, target_place, ended, each, config_line, settings, job_line, some_parallelisms}
use Rattle.ckpt_lines.proofs.Names.{start_line, number_line, only_number, file_places, ack_line, decline_line, restore_line, all_line, row, row_of, line_of, is_too_long, reading, number, subtask}
use Rattle.ckpt_lines.proofs.Names.{retention, target_of, savepoint, file_word, signed, number_of, subtask_of, words_of, common_steps, arith}
use Rattle.ckpt_lines.specs.declared.fault.LineFault.TheVariants as fault

abbrev pub NoMemory : {X : Type 0} → Result X LineFault → Type 0
NoMemory read = IfErr read (λ why. is_memory why ≡ false)

pub bind : {A B : Type 0} (read : Result A LineFault) (f : A → Result B LineFault) → NoMemory read → ((x : A) → NoMemory (f x)) → NoMemory (read >>= f)
bind read f h2 h3 = grind (arith, common_steps)

pub either : {X : Type 0} (b : Bool) (x y : Result X LineFault) → NoMemory x → NoMemory y → NoMemory (cond b x y)
either b x y h3 h4 = grind (arith, common_steps)

number-no_memory : (found : Option ℕ) → NoMemory (ok_or found fault.Number)
number-no_memory found = grind (arith, common_steps)

subtask-no_memory : (found : Option SubtaskId) → NoMemory (ok_or found fault.Number)
subtask-no_memory found = grind (arith, common_steps)

savepoint-no_memory : (found : Option ℕ) → NoMemory (savepoint found)
savepoint-no_memory found = grind (arith, common_steps)

signed-no_memory : (sign : ℕ → FileWord) (found : Option ℕ) → NoMemory (signed sign found)
signed-no_memory sign found = grind (arith, common_steps)

target-no_memory : (word : List ℕ) → NoMemory (target_of word)
unfolding target_of
target-no_memory word = either (bytes_eq word (codes "latest")) _ _ tt (savepoint-no_memory (number_of word))

retention-no_memory : (word : List ℕ) → NoMemory (retention word)
retention-no_memory word = either (bytes_eq word (codes "keep")) _ _ tt (either (bytes_eq word (codes "delete")) _ _ tt refl)

file_word-no_memory : (word : List ℕ) → NoMemory (file_word word)
unfolding file_word
file_word-no_memory word = grind (arith, common_steps, either, signed-no_memory)

place-no_memory : {X : Type 0} (read : List ℕ → Result X LineFault) → ((word : List ℕ) → NoMemory (read word)) → (words : List (List ℕ)) → NoMemory (place read words)
place-no_memory read h1 words = grind (arith, common_steps, bind)

each-no_memory : {X : Type 0} (read : List ℕ → Result X LineFault) → ((word : List ℕ) → NoMemory (read word)) → (words : List (List ℕ)) → NoMemory (each read words)
unfolding each
each-no_memory read one [] = tt
each-no_memory read one (word ∷ words) = bind (read word) _ (one word) (λ x. bind (each read words) _ (each-no_memory read one words) (λ xs. tt))

number_place-no_memory : (words : List (List ℕ)) → NoMemory (number_place words)
unfolding number_place
number_place-no_memory words = place-no_memory number (λ word. number-no_memory (number_of word)) words

subtask_place-no_memory : (words : List (List ℕ)) → NoMemory (subtask_place words)
unfolding subtask_place
subtask_place-no_memory words = place-no_memory subtask (λ word. subtask-no_memory (subtask_of word)) words

retention_place-no_memory : (words : List (List ℕ)) → NoMemory (retention_place words)
unfolding retention_place
retention_place-no_memory words = place-no_memory retention retention-no_memory words

target_place-no_memory : (words : List (List ℕ)) → NoMemory (target_place words)
unfolding target_place
target_place-no_memory words = place-no_memory target_of target-no_memory words

pub numbers-no_memory : (words : List (List ℕ)) → NoMemory (each number words)
numbers-no_memory words = each-no_memory number (λ word. number-no_memory (number_of word)) words

pub ended-no_memory : (words : List (List ℕ)) → NoMemory (ended words)
unfolding ended
ended-no_memory words = grind (arith, common_steps)

-- a number, and what is read after it
pub number_then : {B : Type 0} (words : List (List ℕ)) (f : ℕ × List (List ℕ) → Result B LineFault) → ((x : ℕ × List (List ℕ)) → NoMemory (f x)) → NoMemory (number_place words >>= f)
number_then words f next = bind (number_place words) f (number_place-no_memory words) next

-- the end, and the line
ended_then : {A : Type 0} (words : List (List ℕ)) (line : A) → NoMemory (ended words >>= λ _. Ok line)
ended_then words line = bind (ended words) _ (ended-no_memory words) (λ _. tt)

pub settings-no_memory : (words : List (List ℕ)) → NoMemory (settings words)
unfolding settings
settings-no_memory words =
    number_then words _ (λ interval. number_then interval.1 _ (λ pause. number_then pause.1 _ (λ at_once. number_then at_once.1 _ (λ timeout.
    number_then timeout.1 _ (λ tolerable. number_then tolerable.1 _ (λ retained.
    bind (retention_place retained.1) _ (retention_place-no_memory retained.1) (λ keep. ended_then keep.1 _)))))))

config-no_memory : (words : List (List ℕ)) → NoMemory (config_line words)
unfolding config_line
config-no_memory words = bind (settings words) _ (settings-no_memory words) (λ v. tt)

some-no_memory : (parallelisms : List ℕ) → NoMemory (some_parallelisms parallelisms)
some-no_memory parallelisms = grind (arith, common_steps)

job-no_memory : (words : List (List ℕ)) → NoMemory (job_line words)
unfolding job_line
job-no_memory words = bind (each number words) _ (numbers-no_memory words) (λ ps. some-no_memory ps)

pub only-no_memory : (words : List (List ℕ)) → NoMemory (only_number words)
unfolding only_number
only-no_memory words = number_then words _ (λ n. bind (ended n.1) _ (ended-no_memory n.1) (λ _. tt))

start-no_memory : (words : List (List ℕ)) → NoMemory (start_line words)
unfolding start_line
start-no_memory words = bind (only_number words) _ (only-no_memory words) (λ now. tt)

number_line-no_memory : (first : Keyword) (words : List (List ℕ)) → NoMemory (number_line first words)
unfolding number_line
number_line-no_memory first words = bind (only_number words) _ (only-no_memory words) (λ n. tt)

files-no_memory : (words : List (List ℕ)) → NoMemory (file_places words)
unfolding file_places
files-no_memory words = bind (each file_word words) _ (each-no_memory file_word file_word-no_memory words) (λ files. tt)

ack-no_memory : (words : List (List ℕ)) → NoMemory (ack_line words)
unfolding ack_line
ack-no_memory words = grind (arith, common_steps, bind, files-no_memory, number_then, subtask_place-no_memory)

decline-no_memory : (words : List (List ℕ)) → NoMemory (decline_line words)
unfolding decline_line
decline-no_memory words =
    number_then words _ (λ now. number_then now.1 _ (λ id. bind (subtask_place id.1) _ (subtask_place-no_memory id.1) (λ subtask. ended_then subtask.1 _)))

restore-no_memory : (words : List (List ℕ)) → NoMemory (restore_line words)
unfolding restore_line
restore-no_memory words = grind (arith, common_steps, bind, number_then, numbers-no_memory, target_place-no_memory)

all-no_memory : (words : List (List ℕ)) → NoMemory (all_line words)
unfolding all_line
all-no_memory words = number_then words _ (λ now. number_then now.1 _ (λ id. number_then id.1 _ (λ threads. number_then threads.1 _ (λ first. ended_then first.1 _))))

row-no_memory : (first : Keyword) (words : List (List ℕ)) → NoMemory (row first words)
unfolding row
row-no_memory first words = grind (arith, common_steps, ack-no_memory, all-no_memory, config-no_memory, decline-no_memory, job-no_memory, number_line-no_memory, restore-no_memory, start-no_memory)

row_of-no_memory : (first : Option Keyword) (words : List (List ℕ)) → NoMemory (row_of first words)
row_of-no_memory first words = grind (arith, common_steps, row-no_memory)

pub line_of-no_memory : (words : List (List ℕ)) → NoMemory (line_of words)
unfolding line_of
line_of-no_memory words = grind (arith, common_steps, either, row_of-no_memory)

pub reading-known : (line : List ℕ) → NoMemory (reading line)
unfolding reading
reading-known line = either (is_too_long line) _ _ refl (line_of-no_memory (words_of (strip_carriage_return line)))

pub reading-no_memory : (line : List ℕ) → reading line ≢ Err fault.Memory
reading-no_memory line = λ e. let known : NoMemory (reading line) = reading-known line in let bad : is_memory fault.Memory ≡ false = rw e at known in cc
