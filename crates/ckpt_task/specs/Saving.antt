-- The snapshots of a task.
use Rattle.std.specs.Prelude.{ℕ, ◌==◌, List, [], ◌∷◌, if◌then◌else◌, Option, Some, None}
use Rattle.ckpt_once.specs.Sinks.{Transaction}

-- what was saved for a record: the number of the state, and what the ledger of a sink held back
pub record Saved : Type 0 where
  pub id : ℕ
  pub state : ℕ
  pub waiting : List Transaction

-- the newest snapshot of a record
abbrev pub under : ℕ → List Saved → Option Saved
under n [] = None
under n (one ∷ ones) = if one.id == n then Some one else under n ones

abbrev pub state_of : Option Saved → Option ℕ
state_of None = None
state_of (Some one) = Some one.state

abbrev pub waiting_of : Option Saved → Option (List Transaction)
waiting_of None = None
waiting_of (Some one) = Some one.waiting

abbrev pub state_under : ℕ → List Saved → Option ℕ
state_under n ones = state_of (under n ones)

abbrev pub waiting_under : ℕ → List Saved → Option (List Transaction)
waiting_under n ones = waiting_of (under n ones)
