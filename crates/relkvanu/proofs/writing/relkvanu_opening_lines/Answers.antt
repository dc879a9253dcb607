-- Answers the goals of `relkvanu_opening_lines`.
use Rattle.relkvanu.proofs.Imports.{◌≤◌, ◌∙◌, ℕ, List, length, subst, LONGEST_LINE, opening_of, opening_text}
use Rattle.relkvanu.proofs.Openings.{lines_fit}
use Rattle.relkvanu.proofs.writing.relkvanu_opening_lines.Goals as goal

pub returns-in-Ok-clause-read : goal.returns-in-Ok-clause-read
returns-in-Ok-clause-read c = λ written.
    let o = opening_of c.args.settings.now c.args.shape.now c.args.now 1 in
    let fit : length (opening_text o) ≤ LONGEST_LINE =
    subst (λ (text : List ℕ). length text ≤ LONGEST_LINE) (c.deref.ensures ∙ c.in-Ok.ensures.text) (c.write_text.ensures.short written) in
    let fits = lines_fit o LONGEST_LINE fit in
    (c.in-Ok.ensures.config fits.0, c.in-Ok.ensures.job fits.1, c.in-Ok.ensures.start fits.2)
