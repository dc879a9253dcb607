-- Answers the goals of `number_of`.
use Rattle.ckpt_lines.proofs.{ℕ, ◌≡◌, ◌<◌, eqb, false, length, sym, ◌∙◌, arith, eqb-true, zero, suc, Spells-all, Spells-empty, Spells-more, Spells-stops}
use Rattle.ckpt_lines.proofs.values.number_of.Goals as goal

not_empty : (n : ℕ) → eqb n 0 ≡ false → 0 < n
not_empty zero e = absurd (cc)
not_empty (suc n) e = omega arith

pub returns-then-is_empty : goal.returns-then-is_empty
returns-then-is_empty c = sym (Spells-empty c.args.word.now (eqb-true (length c.args.word.now) 0 (sym c.is_empty.ensures ∙ c.if-is_empty.true)))

pub returns-in_err-number : goal.returns-in_err-number
returns-in_err-number c =
    c.from_residual.ensures ∙ sym (Spells-stops c.args.word.now c.loop-byte.byte-index c.loop-byte.number (omega arith) c.loop-byte.invariant (sym c.with_digit.ensures ∙ c.in_err-number.was))

pub loop-byte-preserved : goal.loop-byte-preserved
loop-byte-preserved c =
    Spells-more c.args.word.now c.loop-byte.byte-index c.loop-byte.number c.in_ok-number.number (omega arith) c.loop-byte.invariant (sym c.with_digit.ensures ∙ c.in_ok-number.was)

pub returns : goal.returns
returns c =
    let some : 0 < length c.args.word.now = not_empty (length c.args.word.now) (sym c.is_empty.ensures ∙ c.if-is_empty.false) in
    Spells-all c.args.word.now c.loop-byte.byte-index c.loop-byte.number some (omega arith) c.loop-byte.invariant
