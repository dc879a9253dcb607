-- Answers the goals of `fence_line`.
use Rattle.ckpt_term_lines.proofs.Names.{rules, fence_text}
use Rattle.ckpt_term_lines.proofs.TermReadBack.{reads_fence}
use Rattle.ckpt_term_lines.proofs.writing.fence_line.Goals as goal

pub returns-clause-read : goal.returns-clause-read
unfolding fence_text
returns-clause-read c =
    let read = reads_fence c.args.first c.write_number.ensures.fits in
    search (rules, read, c.write_number.ensures.text)
