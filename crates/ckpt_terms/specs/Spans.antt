-- Ranges of names.
use Rattle.std.specs.Prelude.{◌≡◌, ℕ, ◌+◌, ◌-◌, ◌<◌, ◌≤◌, Bool, ◌&&◌, nat_lt, nat_le, ◌==◌, List, [], ◌∷◌, flat_map, length, if◌then◌else◌, ⊤}
use Rattle.std.specs.List.{All, HoldsAt, range_with_len}
use Rattle.ckpt_ids.specs.{Ascending.IsAscendingSet, Ordered.IsIn}
use Rattle.ckpt_terms.specs.{declared.names.Span.Span, Fencing.without_all}

-- the names of a range
abbrev pub row : Span → List ℕ
row s = range_with_len s.from (s.to - s.from)

abbrev pub in_span : ℕ → Span → Bool
in_span name s = nat_le s.from name && nat_lt name s.to

abbrev pub names_of : List Span → List ℕ
names_of spans = flat_map row spans

-- a name before ranges; the first one begins earlier then, if it began right behind the name
abbrev pub with_first : ℕ → List Span → List Span
with_first name [] = record { from = name; to = name + 1 } ∷ []
with_first name (s ∷ spans) = if s.from == name + 1 then record { from = name; to = s.to } ∷ spans else record { from = name; to = name + 1 } ∷ s ∷ spans

-- the ranges of ascending names, as few as can be: no two of them touch
unfoldable pub ranges_of : List ℕ → List Span
ranges_of [] = []
ranges_of (name ∷ names) = with_first name (ranges_of names)

-- with a range behind them; the last one ends later then, if it ended where the range begins
abbrev pub joined : List Span → Span → List Span
joined [] s = s ∷ []
joined (last ∷ []) s = if last.to == s.from then record { from = last.from; to = s.to } ∷ [] else last ∷ s ∷ []
joined (t ∷ u ∷ spans) s = t ∷ joined (u ∷ spans) s

-- no range ends where the next one begins
abbrev pub EndsBefore : Span → List Span → Type 0
EndsBefore s [] = ⊤
EndsBefore s (t ∷ spans) = s.to < t.from

abbrev pub AreApart : List Span → Type 0
AreApart [] = ⊤
AreApart (s ∷ spans) = EndsBefore s spans × AreApart spans

-- in ascending order, and none is empty
pub record AreRanges (spans : List Span) : Type 0 where
  pub some : All (λ s. s.from < s.to) spans
  pub ascending : IsAscendingSet (names_of spans)

-- ranges with this many names, and room for as many ranges as these can be split into
pub record AreKept (spans : List Span) (held len room : ℕ) : Type 0 where
  pub ranges : AreRanges spans
  pub names : length (names_of spans) ≡ held
  pub fits : held + len ≤ room + room

-- ranges with this many names, all of them below an end
pub record AreRangesBelow (spans : List Span) (end held : ℕ) : Type 0 where
  pub ranges : AreRanges spans
  pub names : length (names_of spans) ≡ held
  pub below : (f : ℕ) → IsIn f (names_of spans) → f < end

-- the range at this place has the name
pub record HasAt (spans : List Span) (place : ℕ) (s : Span) (name : ℕ) : Type 0 where
  pub within : place < length spans
  pub there : HoldsAt (λ t. t ≡ s) spans place
  pub from : s.from ≤ name
  pub to : name < s.to

-- a name is taken out
pub record IsCut (old new : List Span) (name : ℕ) : Type 0 where
  pub names : names_of new ≡ without_all (name ∷ []) (names_of old)
  pub count : length (names_of new) + 1 ≡ length (names_of old)
  pub ranges : AreRanges new
