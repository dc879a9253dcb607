-- Answers the goals of `Words::is_empty`.
use Rattle.ckpt_lines.proofs.{◌∙◌, tells_none}
use Rattle.ckpt_lines.proofs.words.Words.is_empty.Goals as goal

pub returns : goal.returns
returns c = tells_none c.without_spaces.result.now c.args.self.now c.is_empty.result c.without_spaces.ensures.start (c.without_spaces.ensures.words ∙ c.self.view_is) c.is_empty.ensures
