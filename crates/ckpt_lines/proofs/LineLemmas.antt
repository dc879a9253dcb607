-- A text of words with one space between two is read as these words.
use Rattle.ckpt_lines.proofs.Names.{◌≡◌, ℕ, zero, suc, ◌-◌, ◌<◌, ◌≤◌, true, false, ◌&&◌, ltb, List, [], ◌∷◌, ◌++◌, length, filter, refl, sym, ap, subst, ◌∙◌, arith, append_assoc, append-nil}
use Rattle.ckpt_lines.proofs.Names.{ltb-true, map, flat_map, slice_index, ◌==◌, list_all, slice_split, strip_carriage_return, and_parts, le-ltb, nat_tests, All, All-nil, All-head, All-tail}
use Rattle.ckpt_lines.proofs.Names.{All-cons, LONGEST_LINE, reading, line_of, is_space, is_word, words_of}
use Rattle.std.proofs.lemmas.List.Splits.{slice_split_at, slice_split_none}

-- each element, by recursion
abbrev pub Each : {X : Type 0} → (X → Type 0) → List X → Type 0
Each P [] = Unit {0}
Each P (x ∷ xs) = P x × Each P xs

to_all : {X : Type 0} (P : X → Type 0) (xs : List X) → Each P xs → All P xs
to_all P [] each = All-nil P
to_all P (x ∷ xs) each = All-cons P x xs each.0 (to_all P xs each.1)

pub from_all : {X : Type 0} (P : X → Type 0) (xs : List X) → All P xs → Each P xs
from_all P [] all = tt
from_all P (x ∷ xs) all = (All-head P x xs all, from_all P xs (All-tail P x xs all))

pub each_append : {X : Type 0} (P : X → Type 0) (xs ys : List X) → Each P xs → Each P ys → Each P (xs ++ ys)
each_append P [] ys each others = others
each_append P (x ∷ xs) ys each others = (each.0, each_append P xs ys each.1 others)

-- a word without spaces and control characters
abbrev pub IsPlain : List ℕ → Type 0
IsPlain word = Each (λ b. 32 < b) word × (0 < length word)

all_above : (word : List ℕ) → list_all (λ b. ltb 32 b) word ≡ true → Each (λ b. 32 < b) word
all_above [] e = tt
all_above (b ∷ bs) e =
    let parts : (ltb 32 b ≡ true) × (list_all (λ b. ltb 32 b) bs ≡ true) = and_parts _ _ e in
    (ltb-true 32 b parts.0, all_above bs parts.1)

-- computed for a word that is written out
pub plain_by : (word : List ℕ) → (list_all (λ b. ltb 32 b) word && ltb 0 (length word)) ≡ true → IsPlain word
plain_by word e =
    let parts : (list_all (λ b. ltb 32 b) word ≡ true) × (ltb 0 (length word) ≡ true) = and_parts _ _ e in
    (all_above word parts.0, ltb-true 0 (length word) parts.1)

not_space : (word : List ℕ) → Each (λ b. 32 < b) word → Each (λ b. is_space b ≡ false) word
not_space [] above = tt
not_space (b ∷ bs) above = (let first : 32 < b = above.0 in grind (arith, nat_tests), not_space bs above.1)

kept : (word : List ℕ) (parts : List (List ℕ)) → 0 < length word → filter is_word (word ∷ parts) ≡ word ∷ filter is_word parts
kept [] parts some = absurd (omega (arith, some))
kept (b ∷ bs) parts some = refl

no_return : (word : List ℕ) → Each (λ b. 32 < b) word → Each (λ b. 13 < b) word
no_return [] above = tt
no_return (b ∷ bs) above = (let first : 32 < b = above.0 in omega (arith, first), no_return bs above.1)

-- the text has these words and no carriage return
abbrev pub IsWritten : List ℕ → List (List ℕ) → Type 0
IsWritten text words = (words_of text ≡ words) × Each (λ b. 13 < b) text

pub last : (word : List ℕ) → IsPlain word → IsWritten word (word ∷ [])
last word plain = (ap (filter is_word) (slice_split_none is_space word (to_all (λ b. is_space b ≡ false) word (not_space word plain.0))) ∙ kept word [] plain.1, no_return word plain.0)

pub next : (word rest : List ℕ) (words : List (List ℕ)) → IsPlain word → IsWritten rest words → IsWritten (word ++ 32 ∷ rest) (word ∷ words)
next word rest words plain written =
    let split : words_of (word ++ 32 ∷ rest) ≡ word ∷ words_of rest =
    ap (filter is_word) (slice_split_at is_space word 32 rest (to_all (λ b. is_space b ≡ false) word (not_space word plain.0)) refl) ∙ kept word (slice_split is_space rest) plain.1 in
    let space : 13 < 32 = omega arith in
    (split ∙ ap (λ (ws : List (List ℕ)). word ∷ ws) written.0, each_append (λ b. 13 < b) word (32 ∷ rest) (no_return word plain.0) (space, written.1))

-- one word more for each element, up to the end
pub each_next : {X : Type 0} (spelled : X → List ℕ) (word : List ℕ) (xs : List X) → IsPlain word → Each (λ x. IsPlain (spelled x)) xs
    → IsWritten (word ++ flat_map (λ x. 32 ∷ spelled x) xs) (word ∷ map spelled xs)
each_next spelled word [] plain all = subst (λ (t : List ℕ). IsWritten t (word ∷ [])) (sym (append-nil word)) (last word plain)
each_next spelled word (x ∷ xs) plain all =
    next word (spelled x ++ flat_map (λ x. 32 ∷ spelled x) xs) (spelled x ∷ map spelled xs) plain (each_next spelled (spelled x) xs all.0 all.1)

-- the same, with more text after them
pub each_before : {X : Type 0} (spelled : X → List ℕ) (word tail : List ℕ) (words : List (List ℕ)) (xs : List X) → IsPlain word → Each (λ x. IsPlain (spelled x)) xs
    → ((w : List ℕ) → IsPlain w → IsWritten (w ++ tail) (w ∷ words))
    → IsWritten (word ++ (flat_map (λ x. 32 ∷ spelled x) xs ++ tail)) (word ∷ (map spelled xs ++ words))
each_before spelled word tail words [] plain all end = end word plain
each_before spelled word tail words (x ∷ xs) plain all end =
    let front : List ℕ = flat_map (λ x. 32 ∷ spelled x) xs in
    let rest : IsWritten (spelled x ++ (front ++ tail)) (spelled x ∷ (map spelled xs ++ words)) = each_before spelled (spelled x) tail words xs all.0 all.1 end in
    let whole : IsWritten (word ++ 32 ∷ (spelled x ++ (front ++ tail))) (word ∷ spelled x ∷ (map spelled xs ++ words)) = next word (spelled x ++ (front ++ tail)) _ plain rest in
    let same : (spelled x ++ front) ++ tail ≡ spelled x ++ (front ++ tail) = simp append_assoc in
    subst (λ (t : List ℕ). IsWritten (word ++ 32 ∷ t) (word ∷ spelled x ∷ (map spelled xs ++ words))) (sym same) whole

at : (text : List ℕ) (i : ℕ) → Each (λ b. 13 < b) text → i < length text → 13 < slice_index text i
at [] i above within = absurd (omega (arith, within))
at (b ∷ bs) zero above within = above.0
at (b ∷ bs) (suc i) above within = at bs i above.1 (omega (arith, within))

ends_otherwise : (text : List ℕ) → Each (λ b. 13 < b) text → (slice_index text (length text - 1) == 13) ≡ false
ends_otherwise [] above = refl
ends_otherwise (b ∷ bs) above =
    let within : length (b ∷ bs) - 1 < length (b ∷ bs) = omega arith in
    let big : 13 < slice_index (b ∷ bs) (length (b ∷ bs) - 1) = at (b ∷ bs) (length (b ∷ bs) - 1) above within in
    grind (arith, nat_tests, big)

pub no_strip : (text : List ℕ) → Each (λ b. 13 < b) text → strip_carriage_return text ≡ text
no_strip text above = rw (ends_otherwise text above) refl

pub reading-written : (text : List ℕ) (words : List (List ℕ)) → IsWritten text words → length text ≤ LONGEST_LINE → reading text ≡ line_of words
unfolding reading
reading-written text words written short = rw (le-ltb LONGEST_LINE (length text) short, no_strip text written.1, written.0) refl
