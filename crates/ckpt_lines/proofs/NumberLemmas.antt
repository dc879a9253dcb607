-- A number is read digit by digit.
use Rattle.ckpt_lines.proofs.Names.{◌≡◌, ℕ, ◌+◌, ◌-◌, ◌*◌, ◌^◌, ◌<◌, ◌≤◌, Bool, true, false, ◌&&◌, cond, ltb, List, [], ◌∷◌, length, take, get_or, Option, Some, None, refl, sym, ap, ◌∙◌, arith}
use Rattle.ckpt_lines.proofs.Names.{lt-ltb, ltb-true, zero, suc, is_ascii_digit, digit_value, all_ascii_digits, digits_value, and_parts, and_from, nat_tests, digits_value_more, digits_value-take-le}
use Rattle.ckpt_lines.proofs.Names.{is_number, number_of, with_digit, common_steps}

-- this many bytes from the start are digits, and spell the number
pub record Spells (word : List ℕ) (place number : ℕ) : Type 0 where
  pub digits : all_ascii_digits (take place word) ≡ true
  pub value : number ≡ digits_value 10 (take place word)
  pub fits : number < 2 ^ 64

digit_is : (b : ℕ) → is_ascii_digit b ≡ true → digit_value b ≡ b - 48
digit_is b digit = grind (arith, nat_tests)

digits_more : (word : List ℕ) (i : ℕ) → i < length word → all_ascii_digits (take i word) ≡ true → is_ascii_digit (get_or word i 0) ≡ true → all_ascii_digits (take (i + 1) word) ≡ true
digits_more [] i within digits digit = absurd (omega arith)
digits_more (b ∷ bs) zero within digits digit = and_from (is_ascii_digit b) true digit refl
digits_more (b ∷ bs) (suc i) within digits digit =
    let parts : (is_ascii_digit b ≡ true) × (all_ascii_digits (take i bs) ≡ true) = and_parts (is_ascii_digit b) (all_ascii_digits (take i bs)) digits in
    let e : suc i + 1 ≡ suc (i + 1) = omega arith in
    rw e (and_from (is_ascii_digit b) (all_ascii_digits (take (i + 1) bs)) parts.0 (digits_more bs i (omega arith) parts.1 digit))

digit_at : (word : List ℕ) (i : ℕ) → i < length word → all_ascii_digits word ≡ true → is_ascii_digit (get_or word i 0) ≡ true
digit_at [] i within digits = absurd (omega arith)
digit_at (b ∷ bs) zero within digits = (and_parts (is_ascii_digit b) (all_ascii_digits bs) digits).0
digit_at (b ∷ bs) (suc i) within digits = digit_at bs i (omega arith) (and_parts (is_ascii_digit b) (all_ascii_digits bs) digits).1

abbrev more : ℕ → ℕ → ℕ
more number byte = number * 10 + (byte - 48)

abbrev takes : ℕ → ℕ → Bool
takes number byte = is_ascii_digit byte && ltb (more number byte) (2 ^ 64)

value_more : (word : List ℕ) (i number : ℕ) → i < length word → Spells word i number → is_ascii_digit (get_or word i 0) ≡ true → more number (get_or word i 0) ≡ digits_value 10 (take (i + 1) word)
value_more word i number within spells digit = grind (arith, common_steps, digit_is, digits_value_more)

pub Spells-none : (word : List ℕ) → Spells word 0 0
Spells-none word = record { digits = refl; value = refl; fits = omega arith }

pub Spells-more : (word : List ℕ) (i number next : ℕ) → i < length word → Spells word i number → with_digit number (get_or word i 0) ≡ Some next → Spells word (i + 1) next
Spells-more word i number next within spells is = by (takes number (get_or word i 0)) refl
  where
    by : (b : Bool) → takes number (get_or word i 0) ≡ b → Spells word (i + 1) next
    by true e =
        let parts : (is_ascii_digit (get_or word i 0) ≡ true) × (ltb (more number (get_or word i 0)) (2 ^ 64) ≡ true) =
        and_parts (is_ascii_digit (get_or word i 0)) (ltb (more number (get_or word i 0)) (2 ^ 64)) e in
        let small : more number (get_or word i 0) < 2 ^ 64 = ltb-true (more number (get_or word i 0)) (2 ^ 64) parts.1 in
        let some : Some (more number (get_or word i 0)) ≡ Some next = ap (λ b. cond b (Some (more number (get_or word i 0))) None) (sym e) ∙ is in
        let same : more number (get_or word i 0) ≡ next = cc in
        record {
          digits = digits_more word i within spells.digits parts.0;
          value = sym same ∙ value_more word i number within spells parts.0;
          fits = omega (arith, same);
        }
    by false e = let none : ◌≡◌ {A = Option ℕ} None (Some next) = ap (λ b. cond b (Some (more number (get_or word i 0))) None) (sym e) ∙ is in absurd cc

abbrev IsNumber : List ℕ → Type 0
IsNumber word = (0 < length word) × (all_ascii_digits word ≡ true) × (digits_value 10 word < 2 ^ 64)

is_number_to : (word : List ℕ) → is_number word ≡ true → IsNumber word
is_number_to word e = grind (arith, common_steps)

no_number : (word : List ℕ) → (IsNumber word → ⊥) → number_of word ≡ None
unfolding number_of
no_number word not = by (is_number word) refl
  where
    by : (b : Bool) → is_number word ≡ b → number_of word ≡ None
    by true e = absurd (not (is_number_to word e))
    by false e = rw e refl

pub Spells-empty : (word : List ℕ) → length word ≡ 0 → number_of word ≡ None
Spells-empty word empty = no_number word (λ is. let some : 0 < length word = is.0 in absurd (omega arith))

-- there is no number if a byte can't be taken
pub Spells-stops : (word : List ℕ) (i number : ℕ) → i < length word → Spells word i number → with_digit number (get_or word i 0) ≡ None → number_of word ≡ None
Spells-stops word i number within spells is = no_number word (λ all.
    let digit : is_ascii_digit (get_or word i 0) ≡ true = digit_at word i within all.1 in
    let value : more number (get_or word i 0) ≡ digits_value 10 (take (i + 1) word) = value_more word i number within spells digit in
    let bound : digits_value 10 (take (i + 1) word) ≤ digits_value 10 word = digits_value-take-le 10 word (i + 1) (omega arith) in
    let fits : digits_value 10 word < 2 ^ 64 = all.2 in
    let taken : takes number (get_or word i 0) ≡ true =
    and_from (is_ascii_digit (get_or word i 0)) (ltb (more number (get_or word i 0)) (2 ^ 64)) digit (lt-ltb (more number (get_or word i 0)) (2 ^ 64) (omega (arith, value))) in
    let some : ◌≡◌ {A = Option ℕ} (Some (more number (get_or word i 0))) None = ap (λ b. cond b (Some (more number (get_or word i 0))) None) (sym taken) ∙ is in
    absurd cc)

pub Spells-all : (word : List ℕ) (i number : ℕ) → 0 < length word → length word ≤ i → Spells word i number → Some number ≡ number_of word
unfolding number_of
Spells-all word i number some past spells = grind (arith, common_steps)
