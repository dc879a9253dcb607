-- Answers the goals of `first_keyword`.
use Rattle.ckpt_lines.proofs.{begins}
use Rattle.ckpt_lines.proofs.parse.first_keyword.Goals as goal

pub returns-in-Some : goal.returns-in-Some
returns-in-Some c = begins c.in-Some.keyword c.args.words.now c.usual_keyword.new.self c.in-Some.ensures
