-- The lines of a text.
use Rattle.std.specs.Prelude.{◌≡◌, ℕ, ◌+◌, Bool, true, false, ◌==◌, List, [], ◌∷◌, ◌++◌, length, take, drop, if◌then◌else◌, ◌⊎◌, ◌<◌, Option, None, Some}
use Rattle.std.specs.List.{list_any}
use Rattle.ckpt_lines.specs.declared.limits.TheConstants.{LONGEST_LINE}

abbrev pub newline : ℕ
newline = 10

-- the byte goes to the start of the first line
abbrev pub onto_first : ℕ → List (List ℕ) → List (List ℕ)
onto_first b [] = (b ∷ []) ∷ []
onto_first b (line ∷ lines) = (b ∷ line) ∷ lines

-- a newline ends a line, and if there are bytes after the last newline they are a line
abbrev pub lines_of : List ℕ → List (List ℕ)
lines_of [] = []
lines_of (b ∷ bytes) = if b == newline then [] ∷ lines_of bytes else onto_first b (lines_of bytes)

abbrev pub has_newline : List ℕ → Bool
has_newline bytes = list_any (λ b. b == newline) bytes

-- the bytes up to the last newline, which is in: the lines that are whole
abbrev pub whole_lines : List ℕ → List ℕ
whole_lines [] = []
whole_lines (b ∷ bytes) = if has_newline (b ∷ bytes) then b ∷ whole_lines bytes else []

-- how many bytes of a line are held: with one more than a line may have, it is known to be too long
abbrev pub held : ℕ
held = LONGEST_LINE + 1

-- from `bytes` on, `line` was read up to its newline or to the end of the text, and `rest` is left
pub record TakesLine (is_ended : Bool) (bytes rest line : List ℕ) : Type 0 where
  pub one_line : has_newline line ≡ false
  pub split : (bytes ≡ line ++ newline ∷ rest) ⊎ ((bytes ≡ line) × (rest ≡ []) × (is_ended ≡ true))

-- from `bytes` on, a part of a line was read, and `rest` is left
pub record TakesPart (bytes rest part : List ℕ) : Type 0 where
  pub one_line : has_newline part ≡ false
  pub split : bytes ≡ part ++ rest

-- the place of the first newline
abbrev pub FindsNewline : List ℕ → Option ℕ → Type 0
FindsNewline bytes None = has_newline bytes ≡ false
FindsNewline bytes (Some place) =
    let line : List ℕ = take place bytes in
    (place < length bytes) × (has_newline line ≡ false) × (bytes ≡ line ++ newline ∷ drop (place + 1) bytes)

-- A part of what was read went to the line: everything up to a newline, which is dropped, or all of it if there is no
-- newline.
pub record Moves (bytes rest line after : List ℕ) (ends : Bool) : Type 0 where
  pub part : List ℕ
  pub one_line : has_newline part ≡ false
  pub line_after : after ≡ take held (line ++ part)
  pub bytes_before : bytes ≡ part ++ (if ends then newline ∷ rest else rest)
  pub none_left : ends ≡ false → rest ≡ []

-- a line was read, and a prefix of it is held
abbrev pub HoldsLine : Bool → List ℕ → List ℕ → List ℕ → Type 0
HoldsLine is_ended bytes rest front = (line : List ℕ) × TakesLine is_ended bytes rest line × (front ≡ take held line)

-- a part of a line was read, and a prefix of it is held
abbrev pub HoldsPart : List ℕ → List ℕ → List ℕ → Type 0
HoldsPart bytes rest front = (part : List ℕ) × TakesPart bytes rest part × (front ≡ take held part)
