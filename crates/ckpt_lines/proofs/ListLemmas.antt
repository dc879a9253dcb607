-- What begins a list of numbers.
use Rattle.std.proofs.Common.{◌≡◌, ◌≢◌, ℕ, true, List, [], ◌∷◌, Result, Ok, Err, refl, sym, ap, ◌∙◌, ◌⊎◌, ⊎_elim}
use Rattle.std.specs.Prelude.{is_ok}
use Rattle.ckpt_lines.specs.declared.fault.LineFault.{LineFault}
use Rattle.ckpt_ids.specs.declared.call.Target.{Target}
use Rattle.ckpt_lines.specs.Reading.{begins_with_a_number, each, number_place, reaches_a_shape, target_place, ◌>>=◌}
use Rattle.ckpt_lines.specs.Values.{number}

-- no word was read yet, or the first one was a number
abbrev pub HasBegun : List (List ℕ) → List (List ℕ) → Type 0
HasBegun words initial = (words ≡ initial) ⊎ (begins_with_a_number initial ≡ true)

-- so once a number is read, the first word was one
pub begun : (words initial rest : List (List ℕ)) (word : List ℕ) (n : ℕ) → words ≡ word ∷ rest → number word ≡ Ok n → HasBegun words initial → begins_with_a_number initial ≡ true
begun words initial rest word n split read so_far =
    ⊎_elim
    (λ (same : words ≡ initial). ap begins_with_a_number (sym same ∙ split) ∙ ap is_ok read)
    (λ (yes : begins_with_a_number initial ≡ true). yes)
    so_far

-- and a list that was read and is not empty began with one
pub some_begin : (words : List (List ℕ)) (numbers : List ℕ) → each number words ≡ Ok numbers → numbers ≢ [] → begins_with_a_number words ≡ true
unfolding each
some_begin [] numbers read some =
    let same : ◌≡◌ {A = Result (List ℕ) LineFault} (Ok []) (Ok numbers) = read in
    let none : numbers ≡ [] = cc in
    absurd (some none)
some_begin (word ∷ words) numbers read some = by (number word) refl
  where
    by : (found : Result ℕ LineFault) → number word ≡ found → is_ok (number word) ≡ true
    by (Ok n) e = ap is_ok e
    by (Err why) e =
        let clash : ◌≡◌ {A = Result (List ℕ) LineFault} (Err why) (Ok numbers) = ap (λ (r : Result ℕ LineFault). r >>= λ x. each number words >>= λ xs. Ok (x ∷ xs)) (sym e) ∙ read in
        absurd cc

-- a `restore` whose moment and target were read
pub shape_reached : (words after rest : List (List ℕ)) (now : ℕ) (target : Target) → number_place words ≡ Ok (now, after) → target_place after ≡ Ok (target, rest)
    → reaches_a_shape words ≡ begins_with_a_number rest
unfolding reaches_a_shape
shape_reached words after rest now target is its = rw (is, its) refl
