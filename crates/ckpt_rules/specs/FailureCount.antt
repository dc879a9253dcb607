-- How many checkpoints failed in a row.
use Rattle.std.specs.Prelude.{ℕ}

pub record FailureCount : Type 0 where
  -- how many are tolerated
  pub tolerable : ℕ
  -- how many failed since the last completion
  pub number : ℕ
