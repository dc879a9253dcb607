-- Answers the goals of `newline_place`.
use Rattle.ckpt_script.proofs.{ℕ, List, length, Option, None, Some, arith, add-one, take_all, FindsNewline, newline, no_newline_before, split_at_newline}
use Rattle.memchr.specs.Find.{IsFirstByte, is_byte}
use Rattle.ckpt_script.proofs.ahead.newline_place.Goals as goal

finds : (bytes : List ℕ) (found : Option ℕ) → IsFirstByte (is_byte newline) bytes found → FindsNewline bytes found
finds bytes None none = rw (take_all (length bytes) bytes (omega arith)) at (no_newline_before bytes (length bytes) (λ k lt. none k (omega arith) lt) (omega arith))
finds bytes (Some place) first =
    (first.0.high, no_newline_before bytes place (λ k lt. first.0.before k (omega arith) lt) (omega arith), rw add-one (split_at_newline bytes place first.0.high first.1))

pub returns : goal.returns
returns c = finds c.args.bytes.now c.memchr.result c.memchr.ensures
