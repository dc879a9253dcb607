-- Numbers in ascending order.
use Rattle.std.specs.Prelude.{ℕ, List, nat_lt, nat_le}
use Rattle.ckpt_ids.specs.Ordered.{IsInOrder, in_order, in_order_once}

-- no number is below an earlier one
abbrev pub IsAscending : List ℕ → Type 0
IsAscending = IsInOrder nat_le

-- each number is above all earlier ones
abbrev pub IsAscendingSet : List ℕ → Type 0
IsAscendingSet = IsInOrder nat_lt

-- the same numbers in ascending order; a number that is there twice stays twice
abbrev pub ascending : List ℕ → List ℕ
ascending = in_order nat_lt

-- the numbers of a list in ascending order, each once
abbrev pub ascending_set : List ℕ → List ℕ
ascending_set = in_order_once nat_lt
