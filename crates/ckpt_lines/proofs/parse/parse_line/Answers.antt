-- Answers the goals of `parse_line`.
use Rattle.ckpt_lines.proofs.{reading-no_memory}
use Rattle.ckpt_lines.proofs.parse.parse_line.Goals as goal

pub returns-clause-definite : goal.returns-clause-definite
returns-clause-definite c = reading-no_memory c.args.line.now
