-- Answers the goals of `write_tick`.
use Rattle.ckpt_answers.proofs.{◌≡◌, ◌++◌, List, ℕ, codes, decimal, append_assoc, arith, rules, spaced, tick_end_bytes}
use Rattle.std.proofs.lemmas.Fmt.{decimal_digit}
use Rattle.ckpt_answers.proofs.replies.write_tick.Goals as goal

-- a text before, a number, and a text after it
joined : (before : List ℕ) (n : ℕ) (end : List ℕ) → before ++ codes "tick expired" ++ spaced n ++ codes " " ++ end ≡ before ++ (codes "tick expired " ++ decimal n) ++ codes " " ++ end
joined before n end = simp append_assoc

none : decimal 0 ≡ codes "0"
none = decimal_digit 0 (omega arith)

pub returns-in-HeldInterval-clause-text : goal.returns-in-HeldInterval-clause-text
unfolding tick_end_bytes
returns-in-HeldInterval-clause-text c = rw (c.in-HeldInterval.is, c.if-expired-eq0.true, none) (search (append_assoc, rules))

pub returns-in_ok-write_number-in_default-clause-text : goal.returns-in_ok-write_number-in_default-clause-text
returns-in_ok-write_number-in_default-clause-text c = rw (joined _ c.args.expired (tick_end_bytes c.args.end), ← c.in_ok-write_number-in_default.ensures.text) c.write_end.ensures.text

pub returns-in-HeldAtOnce-clause-text : goal.returns-in-HeldAtOnce-clause-text
unfolding tick_end_bytes
returns-in-HeldAtOnce-clause-text c = rw (c.in-HeldAtOnce.is, c.if-expired-eq0-2.true, none) (search (append_assoc, rules))
