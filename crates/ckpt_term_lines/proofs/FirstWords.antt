-- What the first word says: a line that scripts do not have is none of a script.
use Rattle.ckpt_term_lines.proofs.Names.{◌≡◌, ℕ, Bool, true, false, cond, List, [], ◌∷◌, Option, Some, None, Result, Ok, Err, refl, sym, ap, ◌∙◌, find, bytes_eq, strip_carriage_return}
use Rattle.ckpt_term_lines.proofs.Names.{bytes_eq-Decides, LineFault, Call, Line, keyword_of, begins_with_a_list, begins_with_a_number, is_too_long, line_of, number_place, reading, words_of}
use Rattle.ckpt_term_lines.proofs.Names.{TermKeyword, Fence, Reserve, Forfeit, In, Trigger, Configure, Advance, term_keyword_of, term_keywords, term_spelling, TermBegins, in_takes_memory}
use Rattle.ckpt_term_lines.proofs.Names.{made_line, plain_row, script_row, term_line_of, term_reading, without_term, reaches_names}
use Rattle.ckpt_lines.specs.declared.fault.LineFault.TheVariants as fault
use Rattle.ckpt_lines.specs.declared.line.Line.TheVariants as script
use Rattle.ckpt_terms.specs.declared.call.FencedCall.TheVariants as call
use Rattle.ckpt_term_lines.specs.declared.line.TermLine.TheVariants as term_line

-- what is found passes the test
passes : {X : Type 0} (p : X → Bool) (xs : List X) (x : X) → find p xs ≡ Some x → p x ≡ true
passes {X} p [] x found = let none : ◌≡◌ {A = Option X} None (Some x) = found in absurd cc
passes {X} p (y ∷ ys) x found = by (p y) refl (λ (among : find p ys ≡ Some x). passes p ys x among)
  where
    by : (b : Bool) → p y ≡ b → (find p ys ≡ Some x → p x ≡ true) → p x ≡ true
    by true is others =
        let some : ◌≡◌ {A = Option X} (Some y) (Some x) = ap (λ (b : Bool). cond b (Some y) (find p ys)) (sym is) ∙ found in
        let same : y ≡ x = cc in
        ap p (sym same) ∙ is
    by false is others = others (ap (λ (b : Bool). cond b (Some y) (find p ys)) (sym is) ∙ found)

-- the word is spelled as its keyword is
spelled : (word : List ℕ) (first : TermKeyword) → term_keyword_of word ≡ Some first → term_spelling first ≡ word
unfolding term_keyword_of
spelled word first is = (bytes_eq-Decides (term_spelling first) word).0 (passes (λ keyword. bytes_eq (term_spelling keyword) word) term_keywords first is)

-- a script has no such line
no_line : (first : TermKeyword) (words : List (List ℕ)) → line_of (term_spelling first ∷ words) ≡ Err fault.Word
unfolding line_of keyword_of
no_line Fence words = refl
no_line Reserve words = refl
no_line Forfeit words = refl
no_line Advance words = refl
no_line In words = refl
no_line Trigger words = refl
no_line Configure words = refl

-- the words of a script's line are read as that line
pub as_script : (words : List (List ℕ)) (read : Line) → line_of words ≡ Ok read → term_line_of words ≡ Ok (without_term read)
unfolding term_line_of plain_row
as_script [] read is = rw is refl
as_script (word ∷ words) read is = by (term_keyword_of word) refl
  where
    by : (first : Option TermKeyword) → term_keyword_of word ≡ first → term_line_of (word ∷ words) ≡ Ok (without_term read)
    by None e = rw (e, is) refl
    by (Some first) e =
        let none : line_of (word ∷ words) ≡ Err fault.Word = ap (λ (w : List ℕ). line_of (w ∷ words)) (sym (spelled word first e)) ∙ no_line first words in
        let clash : ◌≡◌ {A = Result Line LineFault} (Err fault.Word) (Ok read) = sym none ∙ is in
        absurd cc

-- and with a term, if they say something
pub as_script_in : (term : ℕ) (words : List (List ℕ)) (c : Call) → line_of words ≡ Ok (script.Call c) → made_line term words ≡ Ok (term_line.Call (call.Make term c))
unfolding made_line script_row line_of
as_script_in term [] c is = absurd cc
as_script_in term (word ∷ words) c is = by (term_keyword_of word) refl
  where
    by : (first : Option TermKeyword) → term_keyword_of word ≡ first → made_line term (word ∷ words) ≡ Ok (term_line.Call (call.Make term c))
    by None e = rw (e, is) refl
    by (Some first) e =
        let none : line_of (word ∷ words) ≡ Err fault.Word = ap (λ (w : List ℕ). line_of (w ∷ words)) (sym (spelled word first e)) ∙ no_line first words in
        let clash : ◌≡◌ {A = Result Line LineFault} (Err fault.Word) (Ok (script.Call c)) = sym none ∙ is in
        absurd cc

extends_by : (line : List ℕ) (read : Line) (b : Bool) → is_too_long line ≡ b → reading line ≡ Ok read → term_reading line ≡ Ok (without_term read)
unfolding reading term_reading
extends_by line read true long is =
    let clash : ◌≡◌ {A = Result Line LineFault} (Err fault.TooLong) (Ok read) = rw long at is in
    absurd cc
extends_by line read false short is =
    let words : line_of (words_of (strip_carriage_return line)) ≡ Ok read = rw short at is in
    rw short (as_script (words_of (strip_carriage_return line)) read words)

-- and a line of a script as the same line
pub extends_line : (line : List ℕ) (read : Line) → reading line ≡ Ok read → term_reading line ≡ Ok (without_term read)
extends_line line read is = extends_by line read (is_too_long line) refl is

-- what is found of the first word says what the words are read as
pub begins : (first : Option TermKeyword) (word : List ℕ) (before after : List (List ℕ)) → before ≡ word ∷ after → first ≡ term_keyword_of word → TermBegins first before after
unfolding term_line_of
begins None word before after split is = rw (split, ← is) (refl, refl)
begins (Some first) word before after split is = rw (split, ← is) (refl, refl)

-- the words after a term that was read
pub after_term : (words after : List (List ℕ)) (term : ℕ) → number_place words ≡ Ok (term, after) → in_takes_memory words ≡ begins_with_a_list after
unfolding in_takes_memory
after_term words after term is = rw is refl

pub names_after_term : (words after : List (List ℕ)) (term : ℕ) → number_place words ≡ Ok (term, after) → reaches_names words ≡ begins_with_a_number after
unfolding reaches_names
names_after_term words after term is = rw is refl
