-- Answers the goals of `front`.
use Rattle.ckpt_term_lines.proofs.Names.{◌≡◌, ℕ, ◌+◌, ◌<◌, ◌≤◌, true, false, List, length, take, ap, sym, ◌∙◌, ⊎_elim, arith, min, cases_Bool, ltb-true, ltb-false, lt-ltb, cond-true}
use Rattle.ckpt_term_lines.proofs.Names.{take_all, length-take, Err, LONGEST_LINE, is_too_long, term_reading}
use Rattle.ckpt_lines.specs.declared.fault.LineFault.TheVariants as fault
use Rattle.ckpt_term_lines.proofs.laws.front.Goals as goal

too_long : (line : List ℕ) → is_too_long line ≡ true → term_reading line ≡ Err fault.TooLong
unfolding term_reading
too_long line long = cond-true (is_too_long line) _ _ long

front_is_long : (line : List ℕ) → LONGEST_LINE < length line → is_too_long (take (LONGEST_LINE + 1) line) ≡ true
front_is_long line long = lt-ltb LONGEST_LINE (length (take (LONGEST_LINE + 1) line)) (shown (length (take (LONGEST_LINE + 1) line)) (length line) (length-take (LONGEST_LINE + 1) line) long)
  where
    shown : (n m : ℕ) → n ≡ min (LONGEST_LINE + 1) m → LONGEST_LINE < m → LONGEST_LINE < n
    shown n m e lt = omega arith

pub returns : goal.returns
returns c = λ line.
    ⊎_elim
    (λ (long : is_too_long line ≡ true). too_long (take (LONGEST_LINE + 1) line) (front_is_long line (ltb-true LONGEST_LINE (length line) long)) ∙ sym (too_long line long))
    (λ (short : is_too_long line ≡ false). ap term_reading (take_all (LONGEST_LINE + 1) line (let few : length line ≤ LONGEST_LINE = ltb-false LONGEST_LINE (length line) short in omega arith)))
    (cases_Bool (is_too_long line))
