-- Answers the goals of `names`.
use Rattle.ckpt_term_lines.proofs.Names.{◌≡◌, ℕ, List, Ok, Err, inl, inr, refl, sym, ap, ◌∙◌, ok_or, err_from_is_err_and, ascending, LineFault, each, number, goes_on, fails, is_done}
use Rattle.ckpt_term_lines.proofs.Names.{with_front, with_front-nil, begun, name_places}
use Rattle.ckpt_lines.specs.declared.fault.LineFault.TheVariants as fault
use Rattle.ckpt_term_lines.proofs.rows.names.Goals as goal

names_fail : (words : List (List ℕ)) (why : LineFault) → each number words ≡ Err why → name_places words ≡ Err why
names_fail words why all = rw all refl

names_are : (words : List (List ℕ)) (names : List ℕ) → each number words ≡ Ok names → name_places words ≡ Ok (ascending names)
names_are words names all = rw all refl

pub returns-in_err-name-clause-line : goal.returns-in_err-name-clause-line
returns-in_err-name-clause-line c =
    let p = err_from_is_err_and c.from_residual.result c.from_residual.ensures.1 in
    let why : number c.in-Some.word.now ≡ Err c.in_err-name.field-0.0 = ap (λ n. ok_or n fault.Number) (sym c.number_of.ensures) ∙ sym c.ok_or.ensures.value ∙ c.in_err-name.was in
    rw (p.1, p.2) (λ _. names_fail c.args.words.now c.in_err-name.field-0.0
    (fails number c.loop-word.list.items c.loop-word.words c.in-Some.word.now c.next.new.self c.in_err-name.field-0.0 (each number c.args.words.now) c.in-Some.ensures.steps why c.loop-word.invariant.0))

pub loop-word-init : goal.loop-word-init
loop-word-init c = (ap (λ xs. with_front xs (each number c.args.words.now)) c.new-list.ensures.items ∙ with_front-nil (each number c.args.words.now), inl refl)

pub loop-word-preserved : goal.loop-word-preserved
loop-word-preserved c =
    let is : number c.in-Some.word.now ≡ Ok c.in_ok-name.name = ap (λ n. ok_or n fault.Number) (sym c.number_of.ensures) ∙ sym c.ok_or.ensures.value ∙ c.in_ok-name.was in (
      rw c.in_ok-push.ensures.items
          (goes_on number c.loop-word.list.items c.loop-word.words c.in-Some.word.now c.next.new.self c.in_ok-name.name (each number c.args.words.now) c.in-Some.ensures.steps is
          c.loop-word.invariant.0),
      inr (begun c.loop-word.words c.args.words.now c.next.new.self c.in-Some.word.now c.in_ok-name.name c.in-Some.ensures.steps is c.loop-word.invariant.1),
    )

pub returns-in_err-push-clause-memory : goal.returns-in_err-push-clause-memory
returns-in_err-push-clause-memory c =
    let is : number c.in-Some.word.now ≡ Ok c.in_ok-name.name = ap (λ n. ok_or n fault.Number) (sym c.number_of.ensures) ∙ sym c.ok_or.ensures.value ∙ c.in_ok-name.was in
    λ _. begun c.loop-word.words c.args.words.now c.next.new.self c.in-Some.word.now c.in_ok-name.name c.in-Some.ensures.steps is c.loop-word.invariant.1

pub returns-clause-line : goal.returns-clause-line
returns-clause-line c = let h = c.in_default in
    rw c.of.ensures (names_are c.args.words.now c.loop-word.list.items
    (is_done number c.loop-word.list.items c.loop-word.words (each number c.args.words.now) c.in_default.ensures.steps.0 c.loop-word.invariant.0))
