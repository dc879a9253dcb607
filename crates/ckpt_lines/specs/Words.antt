-- The words of a line.
use Rattle.std.specs.Prelude.{ℕ, Bool, true, false, ◌==◌, List, [], ◌∷◌, filter}
use Rattle.std.specs.List.{position_or_len, slice_split}
use Rattle.ckpt_lines.specs.Bytes.{space}

abbrev pub is_space : ℕ → Bool
is_space byte = byte == space

abbrev pub is_word : List ℕ → Bool
is_word [] = false
is_word (byte ∷ bytes) = true

-- the parts between spaces, without the empty ones
abbrev pub words_of : List ℕ → List (List ℕ)
words_of bytes = filter is_word (slice_split is_space bytes)

abbrev pub begins_with_space : List ℕ → Bool
begins_with_space [] = false
begins_with_space (byte ∷ bytes) = is_space byte

-- how many bytes come before the first space, or all if there is none
abbrev pub first_length : List ℕ → ℕ
first_length text = position_or_len is_space text
