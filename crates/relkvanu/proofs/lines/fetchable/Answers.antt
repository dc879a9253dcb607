-- Answers the goals of `fetchable`.
use Rattle.relkvanu.proofs.Imports.{◌≡◌, ℕ, sym, subst, arith}
use Rattle.relkvanu.proofs.Given.{take_brings}
use Rattle.relkvanu.proofs.lines.fetchable.Goals as goal

pub returns-then-most-waiting : goal.returns-then-most-waiting
returns-then-most-waiting c =
    subst (λ (k : ℕ). c.args.most ≡ k) (sym (take_brings c.args.core.now c.args.most))
    (omega (arith, c.if-most-waiting.true, c.files_waiting-waiting.ensures))

pub returns-else-most-waiting : goal.returns-else-most-waiting
returns-else-most-waiting c =
    subst (λ (k : ℕ). c.files_waiting-waiting.result ≡ k) (sym (take_brings c.args.core.now c.args.most))
    (omega (arith, c.if-most-waiting.false, c.files_waiting-waiting.ensures))
