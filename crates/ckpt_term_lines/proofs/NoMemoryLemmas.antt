-- The reading of a line never says that memory ran out.
use Rattle.ckpt_term_lines.proofs.Names.{◌≡◌, ◌≢◌, ℕ, false, List, [], ◌∷◌, Option, Some, None, Err, refl, strip_carriage_return, each, is_memory, is_too_long, line_of, only_number}
use Rattle.ckpt_term_lines.proofs.Names.{settings, number, words_of, NoMemory, bind, either, line_of-no_memory, number_then, numbers-no_memory, only-no_memory, settings-no_memory}
use Rattle.ckpt_term_lines.proofs.Names.{TermKeyword, term_keyword_of, configure_row, fence_row, forfeit_row, in_row, made_line, made_row, name_places, plain_row, reserve_row, script_row}
use Rattle.ckpt_term_lines.proofs.Names.{term_line_of, term_reading, term_row, term_row_of, trigger_row, advance_row}
use Rattle.ckpt_lines.specs.declared.fault.LineFault.TheVariants as fault
use Rattle.ckpt_term_lines.specs.declared.keyword.TermKeyword.TheVariants as keyword

fence-no_memory : (words : List (List ℕ)) → NoMemory (fence_row words)
unfolding fence_row
fence-no_memory words = bind (only_number words) _ (only-no_memory words) (λ first. tt)

reserve-no_memory : (words : List (List ℕ)) → NoMemory (reserve_row words)
unfolding reserve_row
reserve-no_memory words = number_then words _ (λ term. bind (only_number term.1) _ (only-no_memory term.1) (λ count. tt))

names-no_memory : (words : List (List ℕ)) → NoMemory (name_places words)
names-no_memory words = bind (each number words) _ (numbers-no_memory words) (λ names. tt)

forfeit-no_memory : (words : List (List ℕ)) → NoMemory (forfeit_row words)
unfolding forfeit_row
forfeit-no_memory words = number_then words _ (λ term. bind (name_places term.1) _ (names-no_memory term.1) (λ names. tt))

advance-no_memory : (words : List (List ℕ)) → NoMemory (advance_row words)
unfolding advance_row
advance-no_memory words = number_then words _ (λ now. number_then now.1 _ (λ term. bind (only_number term.1) _ (only-no_memory term.1) (λ first. tt)))

trigger-no_memory : (term : ℕ) (words : List (List ℕ)) → NoMemory (trigger_row term words)
unfolding trigger_row
trigger-no_memory term words = bind (only_number words) _ (only-no_memory words) (λ now. tt)

configure-no_memory : (term : ℕ) (words : List (List ℕ)) → NoMemory (configure_row term words)
unfolding configure_row
configure-no_memory term words = number_then words _ (λ now. bind (settings now.1) _ (settings-no_memory now.1) (λ values. tt))

script-no_memory : (term : ℕ) (words : List (List ℕ)) → NoMemory (script_row term words)
unfolding script_row
script-no_memory term words = bind (line_of words) _ (line_of-no_memory words) (λ line. tt)

made_row-no_memory : (first : Option TermKeyword) (term : ℕ) (all words : List (List ℕ)) → NoMemory (made_row first term all words)
made_row-no_memory None term all words = script-no_memory term all
made_row-no_memory (Some keyword.Trigger) term all words = trigger-no_memory term words
made_row-no_memory (Some keyword.Configure) term all words = configure-no_memory term words
made_row-no_memory (Some keyword.Fence) term all words = script-no_memory term all
made_row-no_memory (Some keyword.Reserve) term all words = script-no_memory term all
made_row-no_memory (Some keyword.Forfeit) term all words = script-no_memory term all
made_row-no_memory (Some keyword.Advance) term all words = script-no_memory term all
made_row-no_memory (Some keyword.In) term all words = script-no_memory term all

made-no_memory : (term : ℕ) (words : List (List ℕ)) → NoMemory (made_line term words)
unfolding made_line
made-no_memory term [] = refl
made-no_memory term (word ∷ words) = made_row-no_memory (term_keyword_of word) term (word ∷ words) words

in-no_memory : (words : List (List ℕ)) → NoMemory (in_row words)
unfolding in_row
in-no_memory words = number_then words _ (λ term. made-no_memory term.0 term.1)

plain-no_memory : (words : List (List ℕ)) → NoMemory (plain_row words)
unfolding plain_row
plain-no_memory words = bind (line_of words) _ (line_of-no_memory words) (λ line. tt)

row-no_memory : (first : TermKeyword) (words : List (List ℕ)) → NoMemory (term_row first words)
unfolding term_row
row-no_memory keyword.Fence words = fence-no_memory words
row-no_memory keyword.Reserve words = reserve-no_memory words
row-no_memory keyword.Forfeit words = forfeit-no_memory words
row-no_memory keyword.Advance words = advance-no_memory words
row-no_memory keyword.In words = in-no_memory words
row-no_memory keyword.Trigger words = trigger-no_memory 0 words
row-no_memory keyword.Configure words = configure-no_memory 0 words

row_of-no_memory : (first : Option TermKeyword) (all words : List (List ℕ)) → NoMemory (term_row_of first all words)
row_of-no_memory None all words = plain-no_memory all
row_of-no_memory (Some first) all words = row-no_memory first words

term_line_of-no_memory : (words : List (List ℕ)) → NoMemory (term_line_of words)
unfolding term_line_of
term_line_of-no_memory [] = plain-no_memory []
term_line_of-no_memory (word ∷ words) = row_of-no_memory (term_keyword_of word) (word ∷ words) words

reading-known : (line : List ℕ) → NoMemory (term_reading line)
unfolding term_reading
reading-known line = either (is_too_long line) _ _ refl (term_line_of-no_memory (words_of (strip_carriage_return line)))

pub term_reading-no_memory : (line : List ℕ) → term_reading line ≢ Err fault.Memory
term_reading-no_memory line = λ e. let known : NoMemory (term_reading line) = reading-known line in let bad : is_memory fault.Memory ≡ false = rw e at known in cc
