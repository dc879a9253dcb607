-- Answers the goals of `subtask_of`.
use Rattle.ckpt_lines.proofs.{◌≡◌, ℕ, ◌+◌, Some, None, drop, refl, sym, ap, ◌∙◌, rules, tests, YieldsList-from_slice, position_from_yields_List, is_dot, joined, part_of}
use Rattle.ckpt_lines.proofs.{subtask_without_dot, subtask_parts, whole_rest}
use Rattle.ckpt_lines.proofs.values.subtask_of.Goals as goal

pub returns-in_err-dot : goal.returns-in_err-dot
returns-in_err-dot c =
    let found = position_from_yields_List is_dot _ _ c.position.result c.position.ensures.ran (YieldsList-from_slice c.args.word.now cc) (λ x b q k. search (rules, tests)) in
    c.from_residual.ensures ∙ sym (subtask_without_dot c.args.word.now (sym found ∙ c.in_err-dot.was))

pub returns-in_err-vertex : goal.returns-in_err-vertex
returns-in_err-vertex c =
    let found = position_from_yields_List is_dot _ _ c.position.result c.position.ensures.ran (YieldsList-from_slice c.args.word.now cc) (λ x b q k. search (rules, tests)) in
    let parts = subtask_parts c.args.word.now c.in_ok-dot.dot (sym found ∙ c.in_ok-dot.was) in
    c.from_residual-in_err-vertex.ensures ∙ sym (parts ∙ ap (λ v. joined v (part_of (drop (c.in_ok-dot.dot + 1) c.args.word.now))) (sym c.part_of.ensures ∙ c.in_err-vertex.was))

pub returns-in_err-index : goal.returns-in_err-index
returns-in_err-index c =
    let found = position_from_yields_List is_dot _ _ c.position.result c.position.ensures.ran (YieldsList-from_slice c.args.word.now cc) (λ x b q k. search (rules, tests)) in
    let parts = subtask_parts c.args.word.now c.in_ok-dot.dot (sym found ∙ c.in_ok-dot.was) in
    let vertex = sym c.part_of.ensures ∙ c.in_ok-vertex.was in
    let index : part_of (drop (c.in_ok-dot.dot + 1) c.args.word.now) ≡ None = ap part_of (sym (whole_rest c.args.word.now (c.in_ok-dot.dot + 1))) ∙ sym c.part_of-2.ensures ∙ c.in_err-index.was in
    c.from_residual-in_err-index.ensures ∙ sym (parts ∙ rw (vertex, index) refl)

pub returns : goal.returns
returns c =
    let found = position_from_yields_List is_dot _ _ c.position.result c.position.ensures.ran (YieldsList-from_slice c.args.word.now cc) (λ x b q k. search (rules, tests)) in
    let parts = subtask_parts c.args.word.now c.in_ok-dot.dot (sym found ∙ c.in_ok-dot.was) in
    let vertex = sym c.part_of.ensures ∙ c.in_ok-vertex.was in
    let index : part_of (drop (c.in_ok-dot.dot + 1) c.args.word.now) ≡ Some c.in_ok-index.index =
    ap part_of (sym (whole_rest c.args.word.now (c.in_ok-dot.dot + 1))) ∙ sym c.part_of-2.ensures ∙ c.in_ok-index.was in
    sym (parts ∙ rw (vertex, index) refl)
