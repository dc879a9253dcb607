-- What a meter says: whose it is, and how many requests for memory were refused.
use Rattle.std.specs.Prelude.{ℕ, ◌+◌}

pub record Refusals : Type 0 where
  pub whose : ℕ
  pub count : ℕ

-- One request more was refused.
abbrev pub one_more : Refusals → Refusals
one_more m = record m { count = m.count + 1 }
