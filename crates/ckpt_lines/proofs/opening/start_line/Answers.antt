-- Answers the goals of `start_line`.
use Rattle.ckpt_lines.proofs.{rules, start_text, start}
use Rattle.ckpt_lines.proofs.opening.start_line.Goals as goal

pub returns-clause-read : goal.returns-clause-read
unfolding start_text
returns-clause-read c =
    let read = start c.args.now c.write_number.ensures.fits in
    search (rules, read, c.write_number.ensures.text)
