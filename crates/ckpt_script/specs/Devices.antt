-- What a source and a sink were asked, how they answered, and which faults follow from it.
use Rattle.std.specs.Prelude.{◌≡◌, ℕ, ◌+◌, ◌-◌, ◌<◌, ◌≤◌, ◌⊎◌, ◌==◌, ⊤, if◌then◌else◌, length, Result, Ok, Err}
use Rattle.ckpt_script.specs.Unread.{Unread}
use Rattle.ckpt_script.specs.declared.fault.RunFault.{RunFault}
use Rattle.ckpt_script.specs.declared.fault.RunFault.TheVariants.{Read, Write, TooManyLines, Memory}
use Rattle.ckpt_script.specs.declared.limits.TheConstants.{MOST_LINES}

-- a source is called at most this often
abbrev pub most_reads : ℕ
most_reads = 4294967296

-- What a source was asked.
pub record Asked : Type 0 where
  -- how often
  pub times : ℕ
  -- how often it failed
  pub failures : ℕ
  -- how often it said that nothing is left
  pub ends : ℕ
  -- how many bytes it gave
  pub bytes : ℕ

-- it serves a run from here on
abbrev pub never_asked : Asked
never_asked = record { times = 0; failures = 0; ends = 0; bytes = 0 }

-- it was asked once more
abbrev pub asked_again : {E : Type 0} → Asked → Result ℕ E → Asked
asked_again asked (Ok count) =
    record { times = asked.times + 1; failures = asked.failures; ends = asked.ends + (if count == 0 then 1 else 0); bytes = asked.bytes + count }
asked_again asked (Err why) = record { times = asked.times + 1; failures = asked.failures + 1; ends = asked.ends; bytes = asked.bytes }

-- A source that may be called: not too often yet, not after a failure, and not after its end.
pub record MayBeAsked (asked : Asked) : Type 0 where
  pub few : asked.times < most_reads
  pub none_failed : asked.failures ≡ 0
  pub going_on : asked.ends ≡ 0

-- What was counted of a source that has not failed.
pub record IsCounted (asked : Asked) (ahead : Unread) : Type 0 where
  pub times : asked.times + ahead.reads_left ≡ most_reads
  pub none_failed : asked.failures ≡ 0
  pub ends : asked.ends ≡ (if ahead.is_ended then 1 else 0)
  pub given : length ahead.bytes ≤ asked.bytes

-- how many of the bytes that a source gave have been used: they are not ahead any more
abbrev pub used : Asked → Unread → ℕ
used asked ahead = asked.bytes - length ahead.bytes

-- a run ends with `Read` if its source failed or was called too often, and with `TooManyLines` if it gave more bytes
-- than lines are run: each of these took a byte at least
abbrev pub SourceCauses : Asked → RunFault → Type 0
SourceCauses asked Read = (asked.failures ≡ 1) ⊎ ((asked.failures ≡ 0) × (asked.times ≡ most_reads))
SourceCauses asked Write = ⊤
SourceCauses asked TooManyLines = (asked.failures ≡ 0) × (MOST_LINES < asked.bytes)
SourceCauses asked Memory = asked.failures ≡ 0

-- and with `Write` if its sink failed
abbrev pub SinkCauses : ℕ → RunFault → Type 0
SinkCauses failures Read = failures ≡ 0
SinkCauses failures Write = failures ≡ 1
SinkCauses failures TooManyLines = failures ≡ 0
SinkCauses failures Memory = failures ≡ 0

-- A fault has its cause, and the source was not asked too often.
pub record IsCaused (asked : Asked) (failures : ℕ) (why : RunFault) : Type 0 where
  pub few : asked.times ≤ most_reads
  pub source : SourceCauses asked why
  pub sink : SinkCauses failures why

-- What was asked of a source whose script was read to its end.
pub record IsReadThrough (asked : Asked) : Type 0 where
  pub few : asked.times ≤ most_reads
  pub none_failed : asked.failures ≡ 0
  pub once : asked.ends ≡ 1
