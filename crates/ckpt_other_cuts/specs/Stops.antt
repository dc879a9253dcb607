-- Where a channel's part of a record ends.
use Rattle.std.specs.Prelude.{◌≡◌, ℕ, Bool, true, false, ◌==◌, List, [], ◌∷◌, ◌++◌, if◌then◌else◌}
use Rattle.ckpt_align.specs.Histories.{Item, Element, Barrier, End}

-- the barrier of a record is among these items, or the end
abbrev pub has_stop : ℕ → List Item → Bool
has_stop n [] = false
has_stop n (Element x ∷ items) = has_stop n items
has_stop n (Barrier m ∷ items) = if m == n then true else has_stop n items
has_stop n (End ∷ items) = true

-- the end comes last, and no barrier of the record before it
abbrev pub EndsWithout : ℕ → List Item → Type 0
EndsWithout n items = (front : List Item) × (items ≡ front ++ End ∷ []) × (has_stop n front ≡ false)
