-- The moments that decide when the next checkpoint may start, in milliseconds.
use Rattle.std.specs.Prelude.{ℕ, ◌+◌, ◌*◌, ◌<◌, nat_lt, IsTrue, Bool, true, Option, Some, None}
use Rattle.ckpt_ids.specs.declared.limits.TheConstants.{LONGEST_DURATION, MOMENTS_END}

pub record Moments : Type 0 where
  -- the greatest moment seen
  pub latest : ℕ
  -- no checkpoint starts before it
  pub due : ℕ
  -- the last completion since the job was started, if there was one
  pub completed : Option ℕ

abbrev pub is_moment : Option ℕ → Bool
is_moment None = true
is_moment (Some moment) = nat_lt moment MOMENTS_END

-- the moments are within limits that leave room for sums in 64 bits; the limits are this project's own
pub record IsInRange (m : Moments) : Type 0 where
  pub latest_to : m.latest < MOMENTS_END
  pub due_to : m.due < MOMENTS_END + 2 * LONGEST_DURATION
  pub completed_to : IsTrue (is_moment m.completed)
