-- A list that is read item by item: what was read, and what is left.
use Rattle.ckpt_image.proofs.Names.{ℕ, List, ◌++◌, drop, Option, option_map, Data, items_view, Value, each}

-- with these at the start
abbrev pub with_front : {X : Type 0} → List X → Option (List X) → Option (List X)
with_front xs rest = option_map (λ ys. xs ++ ys) rest

-- what is left to read from this place on
abbrev pub left : {X : Type 0} → (Data → Option X) → List Value → ℕ → Option (List X)
left one values place = each one (items_view (drop place values))
