-- Answers the goals of `forfeit`.
use Rattle.ckpt_term_lines.proofs.Names.{◌≡◌, ◌∙◌, err_from_is_err_and, begins_with_a_number, reaches_names}
use Rattle.ckpt_term_lines.proofs.FirstWords.{names_after_term}
use Rattle.ckpt_term_lines.proofs.rows.forfeit.Goals as goal

pub returns-in_err-names-clause-memory : goal.returns-in_err-names-clause-memory
returns-in_err-names-clause-memory c =
    let p = err_from_is_err_and c.from_residual-in_err-names.result c.from_residual-in_err-names.ensures.1 in
    let same : reaches_names c.args.words.now ≡ begins_with_a_number c.number.new.self = names_after_term c.args.words.now c.number.new.self c.in_ok-term.term c.in_ok-term.ensures in
    λ memory. same ∙ c.in_err-names.ensures.memory (cc (p.1, p.2, memory))
