-- New and reused files among file words.
use Rattle.ckpt_lines.proofs.Names.{◌≡◌, ℕ, List, [], ◌∷◌, Option, Some, None, Ok, Err, Result, refl, ap, ◌∙◌, filter_map, ascending, LineFault, FileWord, each, file_place, file_places, file_word}
use Rattle.ckpt_lines.proofs.Names.{fresh_file, reused_file}

pub files_fail : (words : List (List ℕ)) (why : LineFault) → each file_word words ≡ Err why → file_places words ≡ Err why
unfolding file_places
files_fail words why failed = rw failed refl

pub files_are : (words : List (List ℕ)) (done : List FileWord) → each file_word words ≡ Ok done
    → file_places words ≡ Ok (ascending (filter_map fresh_file done), ascending (filter_map reused_file done))
unfolding file_places
files_are words done all = rw all refl

abbrev Read : Type 0
Read = Option FileWord × List (List ℕ)

-- a file word that was read, and the words after it
pub next_file : (words : List (List ℕ)) (file : FileWord) (rest : List (List ℕ)) → file_place words ≡ Ok (Some file, rest) → (word : List ℕ) × (words ≡ word ∷ rest) × (file_word word ≡ Ok file)
unfolding file_place
next_file [] file rest is =
    let pair : ◌≡◌ {A = Read} (None, []) (Some file, rest) = cc in
    let none : ◌≡◌ {A = Option FileWord} None (Some file) = ap (λ (p : Read). p.0) pair in
    absurd (cc)
next_file (word ∷ words) file rest is = by (file_word word) refl
  where
    by : (read : Result FileWord LineFault) → file_word word ≡ read → (w : List ℕ) × (word ∷ words ≡ w ∷ rest) × (file_word w ≡ Ok file)
    by (Ok found) e =
        let same : ◌≡◌ {A = Result Read LineFault} (Ok (Some found, words)) (Ok (Some file, rest)) = rw e at is in
        let pair : ◌≡◌ {A = Read} (Some found, words) (Some file, rest) = cc in
        let files : ◌≡◌ {A = Option FileWord} (Some found) (Some file) = ap (λ (p : Read). p.0) pair in
        let one : found ≡ file = cc in
        (word, ap (λ ws. word ∷ ws) (ap (λ (p : Read). p.1) pair), e ∙ ap (λ (f : FileWord). Ok f) one)
    by (Err why) e = let no : ◌≡◌ {A = Result Read LineFault} (Err why) (Ok (Some file, rest)) = rw e at is in absurd (cc)

-- no word is left
pub no_file : (words rest : List (List ℕ)) → file_place words ≡ Ok (None, rest) → words ≡ []
unfolding file_place
no_file [] rest is = refl
no_file (word ∷ words) rest is = by (file_word word) refl
  where
    by : (read : Result FileWord LineFault) → file_word word ≡ read → word ∷ words ≡ []
    by (Ok found) e =
        let same : ◌≡◌ {A = Result Read LineFault} (Ok (Some found, words)) (Ok (None, rest)) = rw e at is in
        let pair : ◌≡◌ {A = Read} (Some found, words) (None, rest) = cc in
        let none : ◌≡◌ {A = Option FileWord} (Some found) None = ap (λ (p : Read). p.0) pair in
        absurd (cc)
    by (Err why) e = let no : ◌≡◌ {A = Result Read LineFault} (Err why) (Ok (None, rest)) = rw e at is in absurd (cc)

-- the next word is no file word
pub bad_file : (words : List (List ℕ)) (why : LineFault) → file_place words ≡ Err why → (word : List ℕ) × (rest : List (List ℕ)) × (words ≡ word ∷ rest) × (file_word word ≡ Err why)
unfolding file_place
bad_file [] why is = absurd (cc)
bad_file (word ∷ words) why is = by (file_word word) refl
  where
    by : (read : Result FileWord LineFault) → file_word word ≡ read → (w : List ℕ) × (rest : List (List ℕ)) × (word ∷ words ≡ w ∷ rest) × (file_word w ≡ Err why)
    by (Ok found) e = let no : ◌≡◌ {A = Result Read LineFault} (Ok (Some found, words)) (Err why) = rw e at is in absurd (cc)
    by (Err other) e =
        let same : ◌≡◌ {A = Result Read LineFault} (Err other) (Err why) = rw e at is in let one : other ≡ why = cc in
        (word, words, refl, e ∙ ap (λ (w : LineFault). Err w) one)
