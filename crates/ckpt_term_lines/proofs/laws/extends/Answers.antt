-- Answers the goals of `extends`.
use Rattle.ckpt_term_lines.proofs.FirstWords.{extends_line}
use Rattle.ckpt_term_lines.proofs.laws.extends.Goals as goal

pub returns : goal.returns
returns c = λ line read is. extends_line line read is
