-- Answers the goals of `numbers`.
use Rattle.std.proofs.Common.{inl, inr}
use Rattle.ckpt_lines.proofs.ListLemmas.{begun}
use Rattle.ckpt_lines.proofs.{◌≡◌, Ok, Err, refl, sym, ap, ◌∙◌, ok_or, err_from_is_err_and, number, goes_on, fails, is_done, each, with_front, with_front-nil}
use Rattle.ckpt_lines.specs.declared.fault.LineFault.TheVariants as fault
use Rattle.ckpt_lines.proofs.lists.numbers.Goals as goal

pub returns-in_err-number-clause-line : goal.returns-in_err-number-clause-line
returns-in_err-number-clause-line c =
    let p = err_from_is_err_and c.from_residual.result c.from_residual.ensures.1 in
    let why : number c.in-Some.word.now ≡ Err c.in_err-number.field-0.0 = ap (λ n. ok_or n fault.Number) (sym c.number_of.ensures) ∙ sym c.ok_or.ensures.value ∙ c.in_err-number.was in
    rw (p.1, p.2) (λ _. fails number c.loop-word.list.items _ c.in-Some.word.now _ _ _ c.in-Some.ensures.steps why c.loop-word.invariant.0)

pub loop-word-init : goal.loop-word-init
loop-word-init c = (ap (λ xs. with_front xs (each number c.args.words.now)) c.new-list.ensures.items ∙ with_front-nil (each number c.args.words.now), inl refl)

pub loop-word-preserved : goal.loop-word-preserved
loop-word-preserved c =
    let is : number c.in-Some.word.now ≡ Ok c.in_ok-number.number = ap (λ n. ok_or n fault.Number) (sym c.number_of.ensures) ∙ sym c.ok_or.ensures.value ∙ c.in_ok-number.was in (
      rw c.in_ok-push.ensures.items (goes_on number c.loop-word.list.items _ c.in-Some.word.now _ c.in_ok-number.number _ c.in-Some.ensures.steps is c.loop-word.invariant.0),
      inr (begun _ _ _ c.in-Some.word.now c.in_ok-number.number c.in-Some.ensures.steps is c.loop-word.invariant.1),
    )

pub returns-in_err-push-clause-memory : goal.returns-in_err-push-clause-memory
returns-in_err-push-clause-memory c =
    let is : number c.in-Some.word.now ≡ Ok c.in_ok-number.number = ap (λ n. ok_or n fault.Number) (sym c.number_of.ensures) ∙ sym c.ok_or.ensures.value ∙ c.in_ok-number.was in
    λ _. begun _ _ _ c.in-Some.word.now c.in_ok-number.number c.in-Some.ensures.steps is c.loop-word.invariant.1

pub returns-clause-line : goal.returns-clause-line
returns-clause-line c = rw c.of.ensures (is_done number c.loop-word.list.items _ _ c.in_default.ensures.steps.0 c.loop-word.invariant.0)
