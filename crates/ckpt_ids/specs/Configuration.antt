-- What a job is configured with.
-- Source: the Flink documentation, "Configuration", execution.checkpointing.* and state.checkpoints.num-retained.
use Rattle.std.specs.Prelude.{ℕ, ◌≤◌, Bool, nat_le, ◌&&◌}
use Rattle.ckpt_ids.specs.declared.limits.TheConstants.{LEAST_INTERVAL, LONGEST_DURATION, MOST_AT_ONCE, MOST_RETAINED, MOST_TOLERABLE}

pub record Configuration : Type 0 where
  -- milliseconds between two triggers
  pub interval : ℕ
  -- milliseconds between a completion and the next trigger
  pub pause : ℕ
  -- how many checkpoints may be pending at once
  pub at_once : ℕ
  -- milliseconds after which a pending record expires
  pub timeout : ℕ
  -- how many failed checkpoints in a row are tolerated
  pub tolerable : ℕ
  -- how many completed checkpoints are kept
  pub retained : ℕ
  pub keep_on_cancel : Bool

-- the configuration with these values
abbrev pub configured : (interval pause at_once timeout tolerable retained : ℕ) → Bool → Configuration
configured interval pause at_once timeout tolerable retained keep_on_cancel = record {
  interval = interval;
  pause = pause;
  at_once = at_once;
  timeout = timeout;
  tolerable = tolerable;
  retained = retained;
  keep_on_cancel = keep_on_cancel;
}

-- whether the values are within the limits, which are this project's own
pub record IsWithinLimits (c : Configuration) : Type 0 where
  pub interval_from : LEAST_INTERVAL ≤ c.interval
  pub interval_to : c.interval ≤ LONGEST_DURATION
  pub pause_to : c.pause ≤ LONGEST_DURATION
  pub at_once_from : 1 ≤ c.at_once
  pub at_once_to : c.at_once ≤ MOST_AT_ONCE
  pub timeout_from : 1 ≤ c.timeout
  pub timeout_to : c.timeout ≤ LONGEST_DURATION
  pub tolerable_to : c.tolerable ≤ MOST_TOLERABLE
  pub retained_from : 1 ≤ c.retained
  pub retained_to : c.retained ≤ MOST_RETAINED

-- the same, as a test
abbrev pub is_within_limits : Configuration → Bool
is_within_limits c =
    nat_le LEAST_INTERVAL c.interval && nat_le c.interval LONGEST_DURATION && nat_le c.pause LONGEST_DURATION
    && nat_le 1 c.at_once && nat_le c.at_once MOST_AT_ONCE
    && nat_le 1 c.timeout && nat_le c.timeout LONGEST_DURATION
    && nat_le c.tolerable MOST_TOLERABLE
    && nat_le 1 c.retained && nat_le c.retained MOST_RETAINED
