-- Answers the goals of `Runner::stop`.
use Rattle.ckpt_script.proofs.{sym, ◌∙◌, stopped_whole, stopped_short}
use Rattle.ckpt_script.proofs.runner.Runner.stop.Goals as goal

pub returns-in-Ok-clause-ran : goal.returns-in-Ok-clause-ran
returns-in-Ok-clause-ran g c = λ text rest before stopped.
    stopped_whole text rest before _ _ c.args.self.now.printed.bytes c.args.fault (sym c.keeps_lines.ensures ∙ c.if-not-keeps_lines.false) stopped c.in-Ok.ensures.ok.1

pub returns-in-Err-clause-ran : goal.returns-in-Err-clause-ran
returns-in-Err-clause-ran g c = λ text rest before stopped. rw c.in-Err.ensures.err.0
    (stopped_short text rest before _ _ c.args.self.now.printed.bytes c.args.fault (sym c.keeps_lines.ensures ∙ c.if-not-keeps_lines.false) stopped c.in-Err.ensures.err.1)
