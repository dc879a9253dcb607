-- What is printed and not written yet, and whether what was written is flushed.
use Rattle.std.specs.Prelude.{◌≡◌, ℕ, Bool, true, List, Result, Ok, Err}
use Rattle.ckpt_script.specs.declared.fault.RunFault.{RunFault}
use Rattle.ckpt_script.specs.declared.summary.Summary.{Summary}
use Rattle.ckpt_script.specs.Telling.{keeps_lines}

pub record Waiting : Type 0 where
  pub bytes : List ℕ
  -- nothing was written since the last flush
  pub is_flushed : Bool

-- all that a sink took is flushed, if it has not failed and nothing was written since the last flush
abbrev pub IsTied : Waiting → ℕ → ℕ → Type 0
IsTied printed unflushed failures = failures ≡ 0 → printed.is_flushed ≡ true → unflushed ≡ 0

-- it stays so
abbrev pub StaysTied : Waiting → ℕ → ℕ → Waiting → ℕ → ℕ → Type 0
StaysTied old unflushed failures new unflushed_after failures_after = IsTied old unflushed failures → IsTied new unflushed_after failures_after

-- if it was so, and the sink has not failed since, all that the sink took is flushed
abbrev pub EndsFlushed : Waiting → ℕ → ℕ → ℕ → ℕ → Type 0
EndsFlushed old unflushed failures unflushed_after failures_after = failures_after ≡ 0 → IsTied old unflushed failures → unflushed_after ≡ 0

-- the run made all calls of the lines before its end, and wrote all that they print
abbrev pub ends_whole : Result Summary RunFault → Bool
ends_whole (Ok summary) = true
ends_whole (Err why) = keeps_lines why
