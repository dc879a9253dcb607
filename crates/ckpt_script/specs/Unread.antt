-- What was read of a script and not used yet.
use Rattle.std.specs.Prelude.{ℕ, List, Bool}

pub record Unread : Type 0 where
  pub bytes : List ℕ
  -- the reader said that the script ends
  pub is_ended : Bool
  -- how often the reader may be asked yet
  pub reads_left : ℕ
