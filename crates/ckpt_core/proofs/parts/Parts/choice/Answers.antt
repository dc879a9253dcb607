-- Answers the goals of `Parts::choice`.
use Rattle.ckpt_core.proofs.{◌∙◌, groups_of, choice_is}
use Rattle.ckpt_core.proofs.parts.Parts.choice.Goals as goal

pub returns : goal.returns
returns c = let p = c.args.self.now in c.choice.ensures.value ∙ choice_is p c.requires (groups_of p c.recall_groups.ensures.pending c.recall_groups.ensures.stored) c.recall_groups.ensures.stored
