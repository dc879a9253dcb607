-- The first word of a text, and the words after it.
use Rattle.ckpt_lines.proofs.Names.{◌≡◌, ℕ, ◌+◌, ◌<◌, Bool, true, false, cond, not, List, [], ◌∷◌, length, take, drop, filter, refl, arith, ◌↔◌, ◌==◌, IsTrue, slice_split, is_space, is_word}
use Rattle.ckpt_lines.proofs.Names.{words_of, begins_with_space, first_length, common_steps}

-- what `split` gives after a part: nothing, or the parts after one space
abbrev parts_after : List ℕ → List (List ℕ)
parts_after [] = []
parts_after (space ∷ text) = slice_split is_space text

pub one_more : (n : ℕ) (b : ℕ) (bs : List ℕ) → (take (1 + n) (b ∷ bs) ≡ b ∷ take n bs) × (drop (1 + n) (b ∷ bs) ≡ drop n bs)
one_more n b bs = grind (arith, common_steps)

split_front : (text : List ℕ) → slice_split is_space text ≡ take (first_length text) text ∷ parts_after (drop (first_length text) text)
split_front [] = refl
split_front (b ∷ bs) = grind (arith, common_steps, one_more, split_front bs)

-- a word ends at the end of the text or at a space
abbrev EndsWord : List ℕ → Type 0
EndsWord [] = Unit {0}
EndsWord (b ∷ bs) = is_space b ≡ true

ends_word : (text : List ℕ) → EndsWord (drop (first_length text) text)
ends_word [] = tt
ends_word (b ∷ bs) =
    let P : Bool → Type 0 = λ space. is_space b ≡ space → EndsWord (drop (cond (not space) (1 + first_length bs) 0) (b ∷ bs)) in
    let cases : (space : Bool) → P space = λ space. elim space as P [
      | true ↦ λ e. e
      | false ↦ λ e. rw ((one_more (first_length bs) b bs).1) (ends_word bs)
    ] in
    cases (is_space b) refl

words_after : (text : List ℕ) → EndsWord text → filter is_word (parts_after text) ≡ words_of text
words_after text h1 = grind (arith, common_steps)

first_word : (b : ℕ) (bs : List ℕ) → is_space b ≡ false → take (first_length (b ∷ bs)) (b ∷ bs) ≡ b ∷ take (first_length bs) bs
first_word b bs other = rw (other, (one_more (first_length bs) b bs).0) refl

-- the text up to its first space is its first word
pub words_of-split : (text : List ℕ) → 0 < length text → begins_with_space text ≡ false → words_of text ≡ take (first_length text) text ∷ words_of (drop (first_length text) text)
words_of-split text h1 h2 = grind (arith, common_steps, ends_word, first_word, split_front, words_after)

-- a text that begins with no space has a word, unless it is empty
pub no_words : (text : List ℕ) → begins_with_space text ≡ false → words_of text ≡ [] → text ≡ []
no_words text h1 h2 = grind (arith, common_steps, words_of-split)

empty_list : (text : List ℕ) → length text ≡ 0 → text ≡ []
empty_list text h1 = grind (arith, common_steps)

-- so such a text is empty exactly if no word is left
pub tells_none : (text : List ℕ) (words : List (List ℕ)) (empty : Bool) → begins_with_space text ≡ false → words_of text ≡ words → empty ≡ (length text == 0) → IsTrue empty ↔ (words ≡ [])
tells_none text words empty start same is = grind (arith, common_steps)

-- one word less is left
pub fewer : (words : List (List ℕ)) (word : List ℕ) (rest : List (List ℕ)) → words ≡ word ∷ rest → length rest < length words
fewer words word rest split = rw split (omega arith)
