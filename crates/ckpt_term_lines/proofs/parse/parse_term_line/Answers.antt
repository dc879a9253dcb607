-- Answers the goals of `parse_term_line`.
use Rattle.ckpt_term_lines.proofs.NoMemoryLemmas.{term_reading-no_memory}
use Rattle.ckpt_term_lines.proofs.parse.parse_term_line.Goals as goal

pub returns-clause-definite : goal.returns-clause-definite
returns-clause-definite c = term_reading-no_memory c.args.line.now
