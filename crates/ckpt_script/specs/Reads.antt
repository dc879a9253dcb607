-- What was taken from what is read ahead and from what the source has left.
use Rattle.std.specs.Prelude.{◌≡◌, ℕ, ◌+◌, ◌<◌, ◌≤◌, true, false, List, [], length, take, drop, Option, None, Some, IfSome}
use Rattle.std.specs.Io.KnownBytes.{Keeps, IsAtEnd, prepend_known}
use Rattle.ckpt_script.specs.Devices.{Asked, IsCounted, used}
use Rattle.ckpt_script.specs.Known.{WhereKnown}
use Rattle.ckpt_script.specs.Lines.{held, HoldsLine, HoldsPart}
use Rattle.ckpt_script.specs.Unread.{Unread}

-- what is read ahead and what the source has left, if that is known
abbrev pub all_left : Unread → Option (List ℕ) → Option (List ℕ)
all_left ahead left = prepend_known ahead.bytes left

-- What is known of a source between two reads: nothing is left once it said so, and what it was asked is counted.
pub record IsFollowed (left : Option (List ℕ)) (asked : Asked) (ahead : Unread) : Type 0 where
  pub ended : ahead.is_ended ≡ true → IsAtEnd left
  pub counted : IsCounted asked ahead

-- More may be read ahead: no byte of the script is lost, and its end is not forgotten.
pub record ReadsOn (old : Unread) (before : Option (List ℕ)) (new : Unread) (after : Option (List ℕ)) : Type 0 where
  pub kept : Keeps (all_left old before) (all_left new after)
  pub ended : new.is_ended ≡ true → IsAtEnd after
  pub stays : new.is_ended ≡ false → old.is_ended ≡ false

-- what holds if the source is asked: nothing is read ahead, and the script has not ended
abbrev pub IfAsked : Unread → Type 0 → Type 0
IfAsked ahead P = ahead.bytes ≡ [] → ahead.is_ended ≡ false → P

-- Bytes are read ahead, unless the script has ended, and none was used.
pub record IsFilled (old : Unread) (before : Asked) (new : Unread) (after : Asked) : Type 0 where
  pub filled : new.bytes ≡ [] → new.is_ended ≡ true
  -- if nothing was ahead, the source was read once
  pub fewer : IfAsked old (new.reads_left + 1 ≡ old.reads_left)
  pub counted : IsCounted after new
  pub bytes_used : used after new ≡ used before old
  pub bytes_given : before.bytes ≤ after.bytes

-- a line was read, and a prefix of it is held
abbrev pub ReadsLine : Unread → Option (List ℕ) → Unread → Option (List ℕ) → List ℕ → Type 0
ReadsLine old before new after front =
    WhereKnown (all_left old before) (all_left new after) (λ bytes rest. HoldsLine new.is_ended bytes rest front)

-- a part of a line was read, a prefix of it is held, and nothing is read ahead
abbrev pub ReadsPart : Unread → Option (List ℕ) → Option (List ℕ) → List ℕ → Type 0
ReadsPart old before after front = WhereKnown (all_left old before) after (λ bytes rest. HoldsPart bytes rest front)

-- the newline, if there is one, is in what was read ahead
abbrev pub IsAhead : Unread → Option ℕ → Type 0
IsAhead ahead newline = IfSome newline (λ place. place < length ahead.bytes)

-- what was read ahead without the line before this newline, if there is one, and without the newline
abbrev pub left_by : Unread → Option ℕ → Unread
left_by ahead None = ahead
left_by ahead (Some newline) = record { bytes = drop (newline + 1) ahead.bytes; is_ended = ahead.is_ended; reads_left = ahead.reads_left }

-- what is held of the line before this newline, or else of the one that was read
abbrev pub line_at : Unread → List ℕ → Option ℕ → List ℕ
line_at ahead line None = line
line_at ahead line (Some newline) = take held (take newline ahead.bytes)

-- A line was found, in what is read ahead or by reading on.
pub record FindsLine (old : Unread) (before : Option (List ℕ)) (new : Unread) (after : Option (List ℕ)) (line : List ℕ) (newline : Option ℕ) : Type 0 where
  pub ahead : IsAhead new newline
  pub read : ReadsLine old before (left_by new newline) after (line_at new line newline)

-- at least one byte was used, once the line that was found is left
abbrev pub UsesBytes : Unread → Asked → Unread → Asked → Option ℕ → Type 0
UsesBytes old before new after newline = used before old < used after (left_by new newline)
