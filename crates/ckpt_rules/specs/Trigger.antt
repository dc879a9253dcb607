-- When the next checkpoint may start.
use Rattle.std.specs.Prelude.{ℕ, ◌+◌, max, nat_lt, nat_le, if◌then◌else◌, Option, Some, None}
use Rattle.ckpt_ids.specs.Configuration.{Configuration}
use Rattle.ckpt_rules.specs.declared.hold.Hold.{Hold}
use Rattle.ckpt_rules.specs.declared.hold.Hold.TheVariants.{Interval, AtOnce, Pause, Go}

-- Milliseconds between two triggers. Source: the Flink documentation, "Configuration",
-- execution.checkpointing.interval. That a greater pause replaces it is this project's own rule.
abbrev pub gap : Configuration → ℕ
gap c = max c.interval c.pause

-- How many checkpoints may be pending.
-- Source: the same, execution.checkpointing.max-concurrent-checkpoints. That a pause above 0 allows one is this project's own rule.
abbrev pub limit : Configuration → ℕ
limit c = if nat_lt 0 c.pause then 1 else c.at_once

-- The moment at which the pause after the last completion is over; 0 if no checkpoint has completed. Source: the same,
-- execution.checkpointing.min-pause.
abbrev pub pause_ends : Configuration → Option ℕ → ℕ
pause_ends c None = 0
pause_ends c (Some completed) = completed + c.pause

-- Whether a checkpoint is held back at the moment t while this many are pending: the first of the three that applies
-- decides. The order of the three is this project's own rule.
abbrev pub hold : Configuration → ℕ → Option ℕ → ℕ → ℕ → Hold
hold c due completed t pending =
    if nat_lt t due then Interval
    else (if nat_le (limit c) pending then AtOnce
    else (if nat_lt t (pause_ends c completed) then Pause else Go))
