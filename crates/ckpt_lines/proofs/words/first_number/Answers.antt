-- Answers the goals of `first_number`.
use Rattle.ckpt_lines.proofs.{◌∙◌, ◌<◌, ◌≤◌, ◌+◌, ◌*◌, ◌^◌, sym, arith, Reads-all, Short-fits, Short-more, Short-none}
use Rattle.ckpt_lines.proofs.words.first_number.Goals as goal
use Rattle.ckpt_lines.proofs.words.first_number.Goals.{then-length-text, else-length-text}

pub loop-length-init : goal.loop-length-init
loop-length-init c = Short-none c.args.text.now

pub overflow_add-number : goal.overflow_add-number
overflow_add-number c =
    let fits = Short-fits _ _ _ c.digit_of-digit.result (omega (arith, c.min-most.ensures)) c.loop-length.invariant (omega arith) in omega (arith, fits)

pub overflow_mul-number : goal.overflow_mul-number
overflow_mul-number c =
    let fits = Short-fits _ _ _ c.digit_of-digit.result (omega (arith, c.min-most.ensures)) c.loop-length.invariant (omega arith) in omega (arith, fits)

pub loop-length-preserved : goal.loop-length-preserved
loop-length-preserved c =
    let digit : c.digit_of-digit.result ≤ 9 = omega arith in
    Short-more _ _ _ _ (omega (arith, c.min-most.ensures)) (omega (arith, c.min-most.ensures)) c.loop-length.invariant digit (c.digit_of-digit.ensures digit)

pub returns-then-text-length-eq32 : goal.returns-then-text-length-eq32
returns-then-text-length-eq32 c = Reads-all c.args.text.now c.loop-length.length c.loop-length.number (omega arith) c.loop-length.invariant.reads (λ there. elim c.if-length-text.branch [
  | then-length-text w ↦ absurd (omega (arith, there, w.if-length-text.true))
  | else-length-text w ↦ sym w.value-is ∙ c.if-text-length-eq32.true
])
