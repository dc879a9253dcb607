-- A list whose last items can be read.
use Rattle.std.specs.Prelude.{◌≡◌, ℕ, ◌+◌, ◌-◌, ◌^◌, ◌<◌, if◌then◌else◌, nat_lt, List, length, Option, None, slice_get}

-- all items, how many of the last ones are kept, and the room that is reserved for more
pub record Listed (T : Type 0) : Type 0 where
  pub items : List T
  pub keep : ℕ
  pub room : ℕ

-- the number that keeps all items: a list has fewer than 2^64
abbrev pub all : ℕ
all = 2 ^ 64 - 1

-- the item at this place, if it is among the last `keep`
abbrev pub kept_at : {T : Type 0} → ℕ → List T → ℕ → Option T
kept_at keep items place = if nat_lt (place + keep) (length items) then None else slice_get items place

-- the forgotten items are counted, and they are those before the last `keep`
pub record IsListed {T : Type 0} (past kept : List T) (forgotten keep : ℕ) : Type 0 where
  pub counted : forgotten ≡ length past
  pub exact : forgotten ≡ (forgotten + length kept) - keep
  pub few : forgotten + length kept < 2 ^ 64
