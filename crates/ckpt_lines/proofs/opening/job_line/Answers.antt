-- Answers the goals of `job_line`.
use Rattle.ckpt_lines.proofs.{rules, job_text, job_of}
use Rattle.ckpt_lines.proofs.opening.job_line.Goals as goal

pub returns-clause-read : goal.returns-clause-read
unfolding job_text
returns-clause-read c =
    let read = job_of c.args.shape.now c.in_ok-write_shape.ensures.fit.0 c.in_ok-write_shape.ensures.fit.1 in
    search (rules, read, c.in_ok-write_shape.ensures.text, c.from_str.ensures.ok)
