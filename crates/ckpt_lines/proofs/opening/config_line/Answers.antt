-- Answers the goals of `config_line`.
use Rattle.ckpt_lines.proofs.{rules, config}
use Rattle.ckpt_lines.proofs.opening.config_line.Goals as goal

pub returns-clause-read : goal.returns-clause-read
returns-clause-read c =
    let read = config c.args.config.now c.interval.ensures.limits in
    search (rules, read, c.in_ok-write_config.ensures)
