-- Answers the goals of `call_line`.
use Rattle.ckpt_lines.proofs.{rules}
use Rattle.ckpt_lines.proofs.ReadBack.{reads}
use Rattle.ckpt_lines.proofs.calls.call_line.Goals as goal

pub returns-clause-read : goal.returns-clause-read
returns-clause-read c =
    let read = reads c.args.call.now c.in_ok-write_call.ensures.fits in let text = c.in_ok-write_call.ensures.text in
    search (rules, read, text)
