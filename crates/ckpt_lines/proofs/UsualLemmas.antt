-- What a usual line says: the call of its keyword and its number.
use Rattle.ckpt_lines.proofs.Names.{◌≡◌, ◌≤◌, ℕ, true, List, length, Ok, ◌∙◌, refl, arith, nat_tests, strip_carriage_return, Keyword, Tick, Savepoint, Dispose, Take, Deleted, Undeleted, Count}
use Rattle.ckpt_lines.proofs.Names.{LONGEST_LINE, number_call, number_line, only_number, reading, row, BeginsWith, is_usual, words_of, common_steps}
use Rattle.ckpt_lines.proofs.BeginLemmas.{words_of-begin}
use Rattle.ckpt_lines.proofs.KeywordLemmas.{begins}
use Rattle.ckpt_lines.specs.declared.line.Line.TheVariants as said

-- a line that is short enough is read as the row of its first word
reads_row : (line : List ℕ) (first : Keyword) (rest : List ℕ) → length line ≤ LONGEST_LINE
    → BeginsWith (strip_carriage_return line) first rest → reading line ≡ row first (words_of rest)
unfolding reading
reads_row line first rest short begin = grind (arith, common_steps, begins, nat_tests, words_of-begin)

usual_row : (first : Keyword) (words : List (List ℕ)) → is_usual first ≡ true → row first words ≡ number_line first words
unfolding row
usual_row Tick words is = refl
usual_row Savepoint words is = refl
usual_row Dispose words is = refl
usual_row Take words is = refl
usual_row Deleted words is = refl
usual_row Undeleted words is = refl
usual_row Count words is = refl
usual_row _ words is = absurd cc

pub reads_usual : (line : List ℕ) (first : Keyword) (rest : List ℕ) (number : ℕ) → length line ≤ LONGEST_LINE
    → BeginsWith (strip_carriage_return line) first rest → is_usual first ≡ true → only_number (words_of rest) ≡ Ok number
    → reading line ≡ Ok (said.Call (number_call first number))
unfolding number_line
reads_usual line first rest number short begin is only = reads_row line first rest short begin ∙ usual_row first (words_of rest) is ∙ (rw only refl)
