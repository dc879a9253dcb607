-- Answers the goals of `term_line`.
use Rattle.ckpt_term_lines.proofs.Names.{rules}
use Rattle.ckpt_term_lines.proofs.TermReadBack.{reads}
use Rattle.ckpt_term_lines.proofs.writing.term_line.Goals as goal

pub returns-clause-read : goal.returns-clause-read
returns-clause-read c =
    let read = reads c.args.call.now c.in_ok-write_fenced_call.ensures.fits in
    let text = c.in_ok-write_fenced_call.ensures.text in
    search (rules, read, text)
