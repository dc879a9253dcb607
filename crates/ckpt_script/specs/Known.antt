-- What a reader has left and what a writer was given, if that is known.
use Rattle.std.specs.Prelude.{◌≡◌, ℕ, List, ◌++◌, ⊤, Option, None, Some}
use Rattle.std.specs.Io.KnownBytes.{Appends}

-- the two lists are known if the first is, and the fact holds for them
abbrev pub WhereKnown : Option (List ℕ) → Option (List ℕ) → (List ℕ → List ℕ → Type 0) → Type 0
WhereKnown None after P = ⊤
WhereKnown (Some bytes) None P = ⊥
WhereKnown (Some bytes) (Some rest) P = P bytes rest

-- a prefix of all these bytes was written between these two moments
abbrev pub IsCut : Option (List ℕ) → Option (List ℕ) → List ℕ → Type 0
IsCut before after all = (written rest : List ℕ) × Appends before after written × (written ++ rest ≡ all)

-- What waited and then the text are, in this order, what was written between these two moments and what waits still.
pub record Passes (before after : Option (List ℕ)) (waiting text left : List ℕ) : Type 0 where
  pub written : List ℕ
  pub appended : Appends before after written
  pub in_turn : written ++ left ≡ waiting ++ text

-- The same, for any output that still waits.
abbrev pub PassesFront : Option (List ℕ) → Option (List ℕ) → List ℕ → List ℕ → Type 0
PassesFront before after waiting text = (left : List ℕ) × Passes before after waiting text left

-- What waited and then the text were handed to a sink that has not failed; so much waits still.
pub record Prints (before after : Option (List ℕ)) (waiting text left : List ℕ) (failures : ℕ) : Type 0 where
  pub passes : Passes before after waiting text left
  pub going_on : failures ≡ 0
