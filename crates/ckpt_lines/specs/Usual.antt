-- Usual lines, whose call is made from their bytes: a usual keyword, a space, and one number.
use Rattle.std.specs.Prelude.{◌≡◌, ℕ, Bool, true, false, List, ◌∷◌, ◌++◌, Ok}
use Rattle.std.specs.Str.Lines.{strip_carriage_return}
use Rattle.ckpt_lines.specs.declared.keyword.Keyword.{Keyword}
use Rattle.ckpt_lines.specs.declared.keyword.Keyword.TheVariants.{Tick, Savepoint, Ack, Dispose, Take, Deleted, Undeleted, Count}
use Rattle.ckpt_lines.specs.Bytes.{space}
use Rattle.ckpt_lines.specs.Keywords.{spelling}
use Rattle.ckpt_lines.specs.Reading.{is_too_long, only_number}
use Rattle.ckpt_lines.specs.Words.{words_of}

-- the keywords of usual lines
abbrev pub is_usual : Keyword → Bool
is_usual Tick = true
is_usual Savepoint = true
is_usual Dispose = true
is_usual Take = true
is_usual Deleted = true
is_usual Undeleted = true
is_usual Count = true
is_usual _ = false

-- The text is this keyword, a space, and this rest.
abbrev pub BeginsWith : List ℕ → Keyword → List ℕ → Type 0
BeginsWith text first rest = text ≡ spelling first ++ space ∷ rest

-- A usual keyword is at the very start of the line, with a space directly after it. One number follows, and no further word.
pub record IsUsual (line : List ℕ) : Type 0 where
  pub keyword : Keyword
  pub rest : List ℕ
  pub number : ℕ
  pub short : is_too_long line ≡ false
  pub usual : is_usual keyword ≡ true
  pub begins : BeginsWith (strip_carriage_return line) keyword rest
  pub numbered : only_number (words_of rest) ≡ Ok number

-- the keywords that are recognized by their bytes: the usual ones, and `ack`
abbrev pub is_recognized : Keyword → Bool
is_recognized Ack = true
is_recognized first = is_usual first

-- the two of these that are tried last
abbrev pub is_long : Keyword → Bool
is_long Savepoint = true
is_long Undeleted = true
is_long _ = false

-- The text begins with none of these keywords and a space.
abbrev pub BeginsWithNone : (Keyword → Bool) → List ℕ → Type 0
BeginsWithNone is_one text = (first : Keyword) (rest : List ℕ) → is_one first ≡ true → BeginsWith text first rest → ⊥
