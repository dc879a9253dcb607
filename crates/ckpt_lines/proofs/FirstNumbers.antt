-- The number at a text's start, byte by byte.
use Rattle.ckpt_lines.proofs.Names.{◌≡◌, ℕ, zero, suc, add-suc, add-zero, pow-suc, ◌+◌, ◌-◌, ◌*◌, ◌^◌, ◌<◌, ◌≤◌, ◌==◌, Bool, true, false, ltb, if◌then◌else◌, Result, sym, List, [], ◌∷◌, length}
use Rattle.ckpt_lines.proofs.Names.{take, drop, get_or, Option, Some, None, Ok, Err, refl, ap, ◌∙◌, arith, ltb-true, option_map, nat_tests, get_or-take, length-take-le, take_all, passes_at_first}
use Rattle.ckpt_lines.proofs.Names.{fails_before_first, prefix_len-le-length, LineFault, FileWord, Fresh, Reused, file_place, number_place, file_word, is_fresh, number_of, signed, with_digit}
use Rattle.ckpt_lines.proofs.Names.{begins_with_space, first_length, is_space, words_of, common_steps}
use Rattle.ckpt_lines.proofs.NumberLemmas.{Spells, Spells-all, Spells-more, Spells-none}
use Rattle.ckpt_lines.proofs.WordSplits.{one_more, words_of-split}
use Rattle.ckpt_lines.specs.declared.fault.LineFault.TheVariants as fault

abbrev first : List ℕ → List ℕ
first text = take (first_length text) text

first-length : (text : List ℕ) → length (first text) ≡ first_length text
first-length text = length-take-le (first_length text) text (prefix_len-le-length _ text)

-- this many bytes of the first word were read, and spell the number
pub record Reads (text : List ℕ) (place number : ℕ) : Type 0 where
  pub within : place ≤ first_length text
  pub spells : Spells (first text) place number

pub Reads-none : (text : List ℕ) → Reads text 0 0
Reads-none text = record { within = omega arith; spells = Spells-none (first text) }

pub other_byte : (byte : ℕ) → (byte ≡ 32 → ⊥) → is_space byte ≡ false
other_byte byte not = grind (arith, nat_tests)

-- a byte that is no space is in the word
inside : (text : List ℕ) (place : ℕ) → place ≤ first_length text → place < length text → is_space (get_or text place 0) ≡ false → place < first_length text
inside text place within there other = by (ltb place (first_length text)) refl
  where
    by : (b : Bool) → ltb place (first_length text) ≡ b → place < first_length text
    by true e = ltb-true place (first_length text) e
    by false e =
        let same : first_length text ≡ place = grind (arith, nat_tests) in
        let space : is_space (get_or text (first_length text) 0) ≡ true = passes_at_first is_space text 0 (omega (arith, same, there)) in
        let at : is_space (get_or text place 0) ≡ true = rw same at space in
        absurd (cc)

digit_of : (text : List ℕ) (place number : ℕ) → place < first_length text → with_digit number (get_or (first text) place 0) ≡ with_digit number (get_or text place 0)
digit_of text place number inside = ap (with_digit number) (get_or-take (first_length text) text place 0 inside)

pub Reads-more : (text : List ℕ) (place number next : ℕ) → place < length text → is_space (get_or text place 0) ≡ false → Reads text place number
    → with_digit number (get_or text place 0) ≡ Some next → Reads text (place + 1) next
Reads-more text place number next there other reads is =
    let within : place < first_length text = inside text place reads.within there other in
    record {
      within = omega arith;
      spells = Spells-more (first text) place number next (omega (arith, first-length text)) reads.spells (digit_of text place number within ∙ is);
    }

ten_below : (k gap : ℕ) → 10 ^ k ≤ 10 ^ (k + gap)
ten_below k zero = rw (add-zero k) (omega arith)
ten_below k (suc gap) =
    let more : 10 ^ k ≤ 10 ^ (k + gap) = ten_below k gap in
    let step : 10 ^ (k + suc gap) ≡ 10 ^ (k + gap) * 10 = rw (add-suc, pow-suc 10 (k + gap)) refl in
    omega (arith, more, step)

-- nineteen digits are never too large a number
nineteen : (k : ℕ) → k ≤ 19 → 10 ^ k < 2 ^ 64
nineteen k few =
    let below : 10 ^ k ≤ 10 ^ (k + (19 - k)) = ten_below k (19 - k) in let same : k + (19 - k) ≡ 19 = omega arith in
    let most : 10 ^ k ≤ 10 ^ 19 = rw same at below in
    omega arith

-- this many bytes are digits, and few enough
pub record Short (text : List ℕ) (place number : ℕ) : Type 0 where
  pub few : place ≤ 19
  pub reads : Reads text place number
  pub below : number < 10 ^ place

pub Short-none : (text : List ℕ) → Short text 0 0
Short-none text = record { few = omega arith; reads = Reads-none text; below = omega arith }

Short-bound : (text : List ℕ) (place number digit : ℕ) → place < 19 → Short text place number → digit ≤ 9 → number * 10 + digit < 10 ^ (place + 1)
Short-bound text place number digit few short small = grind (arith, common_steps)

pub Short-fits : (text : List ℕ) (place number digit : ℕ) → place < 19 → Short text place number → digit ≤ 9 → number * 10 + digit < 2 ^ 64
Short-fits text place number digit few short small =
    let bound : number * 10 + digit < 10 ^ (place + 1) = Short-bound text place number digit few short small in
    let most : 10 ^ (place + 1) < 2 ^ 64 = nineteen (place + 1) (omega arith) in
    omega (arith, bound, most)

with_digit-of : (number byte digit : ℕ) → digit ≤ 9 → byte ≡ 48 + digit → number * 10 + digit < 2 ^ 64 → with_digit number byte ≡ Some (number * 10 + digit)
with_digit-of number byte digit small is fits = grind (arith, common_steps)

pub Short-more : (text : List ℕ) (place number digit : ℕ) → place < length text → place < 19 → Short text place number → digit ≤ 9 → get_or text place 0 ≡ 48 + digit
    → Short text (place + 1) (number * 10 + digit)
Short-more text place number digit there few short small is =
    let fits : number * 10 + digit < 2 ^ 64 = Short-fits text place number digit few short small in
    let other : is_space (get_or text place 0) ≡ false = other_byte (get_or text place 0) (λ space. omega (arith, is, space)) in
    record {
      few = omega arith;
      reads = Reads-more text place number (number * 10 + digit) there other short.reads (with_digit-of number (get_or text place 0) digit small is fits);
      below = Short-bound text place number digit few short small;
    }

-- the word was read if the text ends here or a space follows
ended : (text : List ℕ) (place : ℕ) → place ≤ first_length text → (place < length text → is_space (get_or text place 0) ≡ true) → first_length text ≡ place
ended text place within end = by (ltb place (first_length text)) refl
  where
    by : (b : Bool) → ltb place (first_length text) ≡ b → first_length text ≡ place
    by true e =
        let before : place < first_length text = ltb-true place (first_length text) e in
        let bound : first_length text ≤ length text = prefix_len-le-length _ text in
        let other : is_space (get_or text place 0) ≡ false = fails_before_first is_space text place 0 before in
        let space : is_space (get_or text place 0) ≡ true = end (omega arith) in
        absurd (cc)
    by false e = grind (arith, nat_tests)

abbrev answer : List ℕ → Option (ℕ × ℕ)
answer text = option_map (λ number. (number, first_length text)) (number_of (first text))

pub Reads-all : (text : List ℕ) (place number : ℕ) → 0 < place → Reads text place number → (place < length text → is_space (get_or text place 0) ≡ true) → Some (number, place) ≡ answer text
Reads-all text place number some reads end =
    let same : first_length text ≡ place = ended text place reads.within end in
    let spelled : Some number ≡ number_of (first text) = Spells-all (first text) place number (omega (arith, same, first-length text, some)) (omega (arith, same, first-length text)) reads.spells in
    rw (← spelled, same) refl

answer-Some : (text : List ℕ) (number place : ℕ) → Some (number, place) ≡ answer text → (number_of (first text) ≡ Some number) × (first_length text ≡ place)
answer-Some text number place is = by (number_of (first text)) refl
  where
    by : (spelled : Option ℕ) → number_of (first text) ≡ spelled → (number_of (first text) ≡ Some number) × (first_length text ≡ place)
    by (Some found) e =
        let both : ◌≡◌ {A = Option (ℕ × ℕ)} (Some (number, place)) (Some (found, first_length text)) = is ∙ ap (option_map (λ number. (number, first_length text))) e in
        let pair : ◌≡◌ {A = ℕ × ℕ} (number, place) (found, first_length text) = cc in
        (e ∙ ap Some (sym (ap (λ (p : ℕ × ℕ). p.0) pair)), sym (ap (λ (p : ℕ × ℕ). p.1) pair))
    by None e =
        let none : ◌≡◌ {A = Option (ℕ × ℕ)} (Some (number, place)) None = is ∙ ap (option_map (λ number. (number, first_length text))) e in
        absurd (cc)

answer-None : (text : List ℕ) → None ≡ answer text → number_of (first text) ≡ None
answer-None text is = by (number_of (first text)) refl
  where
    by : (spelled : Option ℕ) → number_of (first text) ≡ spelled → number_of (first text) ≡ None
    by (Some found) e =
        let some : ◌≡◌ {A = Option (ℕ × ℕ)} None (Some (found, first_length text)) = is ∙ ap (option_map (λ number. (number, first_length text))) e in
        absurd (cc)
    by None e = e

-- the place of a number, by the number at the text's start
pub number_at-Some : (text : List ℕ) (number place : ℕ) → 0 < length text → begins_with_space text ≡ false → Some (number, place) ≡ answer text
    → number_place (words_of text) ≡ Ok (number, words_of (drop place text))
unfolding number_place
number_at-Some text number place some start is =
    let spelled = answer-Some text number place is in
    rw (words_of-split text some start, spelled.0, spelled.1) refl

pub number_at-None : (text : List ℕ) → 0 < length text → begins_with_space text ≡ false → None ≡ answer text → number_place (words_of text) ≡ Err fault.Number
unfolding number_place
number_at-None text some start is = rw (words_of-split text some start, answer-None text is) refl

pub number_at-empty : (text : List ℕ) → length text ≡ 0 → number_place (words_of text) ≡ Err fault.Missing
unfolding number_place
number_at-empty text h1 = grind (arith, common_steps)

-- what follows the first byte
abbrev pub after_sign : List ℕ → List ℕ
after_sign text = take (length text - 1) (drop 1 text)

abbrev signed_file : Bool → ℕ → FileWord
signed_file fresh file = if fresh then Fresh file else Reused file

after_sign-cons : (sign : ℕ) (digits : List ℕ) → after_sign (sign ∷ digits) ≡ digits
after_sign-cons sign digits = take_all (suc (length digits) - 1) digits (omega arith)

-- a file word is its sign and the first word of what follows
sign_split : (sign : ℕ) (digits : List ℕ) → is_space sign ≡ false → words_of (sign ∷ digits) ≡ (sign ∷ first digits) ∷ words_of (drop (first_length digits) digits)
sign_split sign digits other =
    let split : words_of (sign ∷ digits) ≡ take (first_length (sign ∷ digits)) (sign ∷ digits) ∷ words_of (drop (first_length (sign ∷ digits)) (sign ∷ digits)) =
    words_of-split (sign ∷ digits) (omega arith) other in
    let more : first_length (sign ∷ digits) ≡ 1 + first_length digits = rw other refl in
    split ∙ rw (more, (one_more (first_length digits) sign digits).0, (one_more (first_length digits) sign digits).1) refl

signed_word : (sign : ℕ) (word : List ℕ) (fresh : Bool) → Ok fresh ≡ is_fresh sign → file_word (sign ∷ word) ≡ signed (signed_file fresh) (number_of word)
unfolding file_word
signed_word sign word fresh is = by (sign == 43) refl (sign == 61) refl
  where
    by : (plus : Bool) → (sign == 43) ≡ plus → (equals : Bool) → (sign == 61) ≡ equals → file_word (sign ∷ word) ≡ signed (signed_file fresh) (number_of word)
    by true e equals f =
        let same : ◌≡◌ {A = Result Bool LineFault} (Ok fresh) (Ok true) = is ∙ rw e refl in let value : fresh ≡ true = cc in
        rw (e, value) refl
    by false e true f =
        let same : ◌≡◌ {A = Result Bool LineFault} (Ok fresh) (Ok false) = is ∙ rw (e, f) refl in
        let value : fresh ≡ false = cc in
        rw (e, f, value) refl
    by false e false f =
        let same : ◌≡◌ {A = Result Bool LineFault} (Ok fresh) (Err fault.Word) = is ∙ rw (e, f) refl in
        absurd (cc)

pub file_at-Some : (text : List ℕ) (number place : ℕ) (fresh : Bool) → 0 < length text → begins_with_space text ≡ false → Ok fresh ≡ is_fresh (get_or text 0 0)
    → Some (number, place) ≡ answer (after_sign text)
    → file_place (words_of text) ≡ Ok (Some (signed_file fresh number), words_of (drop place (after_sign text)))
unfolding file_place
file_at-Some [] number place fresh some start is found = absurd (omega (arith, some))
file_at-Some (sign ∷ digits) number place fresh some start is found =
    let read : Some (number, place) ≡ answer digits = found ∙ ap answer (after_sign-cons sign digits) in
    let spelled = answer-Some digits number place read in
    rw (after_sign-cons sign digits, sign_split sign digits start, signed_word sign (first digits) fresh is, spelled.0, spelled.1) refl

pub file_at-None : (text : List ℕ) (fresh : Bool) → 0 < length text → begins_with_space text ≡ false → Ok fresh ≡ is_fresh (get_or text 0 0) → None ≡ answer (after_sign text)
    → file_place (words_of text) ≡ Err fault.Number
unfolding file_place
file_at-None [] fresh some start is found = absurd (omega (arith, some))
file_at-None (sign ∷ digits) fresh some start is found =
    let read : None ≡ answer digits = found ∙ ap answer (after_sign-cons sign digits) in
    rw (sign_split sign digits start, signed_word sign (first digits) fresh is, answer-None digits read) refl

pub file_at-Err : (text : List ℕ) (why : LineFault) → 0 < length text → begins_with_space text ≡ false → is_fresh (get_or text 0 0) ≡ Err why → file_place (words_of text) ≡ Err why
unfolding file_place file_word
file_at-Err [] why some start is = absurd (omega (arith, some))
file_at-Err (sign ∷ digits) why some start is = by (sign == 43) refl (sign == 61) refl
  where
    by : (plus : Bool) → (sign == 43) ≡ plus → (equals : Bool) → (sign == 61) ≡ equals → file_place (words_of (sign ∷ digits)) ≡ Err why
    by true e equals f = let no : ◌≡◌ {A = Result Bool LineFault} (Ok true) (Err why) = rw e at is in absurd (cc)
    by false e true f = let no : ◌≡◌ {A = Result Bool LineFault} (Ok false) (Err why) = rw (e, f) at is in absurd (cc)
    by false e false f =
        let same : ◌≡◌ {A = Result Bool LineFault} (Err fault.Word) (Err why) = rw (e, f) at is in
        let value : why ≡ fault.Word = cc in
        rw (sign_split sign digits start, e, f, value) refl

pub file_at-empty : (text : List ℕ) → length text < 1 → file_place (words_of text) ≡ Ok (None, words_of text)
unfolding file_place
file_at-empty text h1 = grind (arith, common_steps)
