-- Places in a list that is in order by a key.
use Rattle.std.specs.Prelude.{◌≡◌, ℕ, ◌<◌, ◌≤◌, Bool, true, List, length}
use Rattle.std.specs.List.{HoldsAt}
use Rattle.std.specs.List.Sorted.{IsPartitionPoint}
use Rattle.std.specs.Ordering.{ordering_index}
use Rattle.std.specs.declared.cmp.Ordering.{Ordering}
use Rattle.std.specs.declared.cmp.Ordering.TheVariants.{Less, Equal, Greater}
use Rattle.ckpt_ids.specs.Ordered.{IsInOrder}

-- the keys are in order, each once
abbrev pub AreInOrderBy : {X K : Type 0} → (K → K → Bool) → (X → K) → List X → Type 0
AreInOrderBy before key = IsInOrder (λ x y. before (key x) (key y))

-- an element with this key is at this place
abbrev pub LiesAt : {X K : Type 0} → (X → K) → K → List X → ℕ → Type 0
LiesAt key k xs place = (place < length xs) × HoldsAt (λ x. key x ≡ k) xs place

-- no element has this key, and one that has it belongs at this place
abbrev pub BelongsAt : {X K : Type 0} → (K → K → Bool) → (X → K) → K → List X → ℕ → Type 0
BelongsAt before key k xs place = (place ≤ length xs) × IsPartitionPoint (λ x. before (key x) k ≡ true) (λ x. before k (key x) ≡ true) xs place

-- a comparison that goes by the order
pub record IsSearchOrder {K : Type 0} (cmp : K → K → Ordering) (before : K → K → Bool) : Type 0 where
  pub less : (a b : K) → cmp a b ≡ Less → before a b ≡ true
  pub equal : (a b : K) → cmp a b ≡ Equal → a ≡ b
  pub greater : (a b : K) → cmp a b ≡ Greater → before b a ≡ true
  pub rises : (a b k : K) → before a b ≡ true → ordering_index (cmp a k) ≤ ordering_index (cmp b k)
