-- Answers the goals of `is_aligning`.
use Rattle.relkvanu_barriers.proofs.Imports.{◌∙◌, sym}
use Rattle.relkvanu_barriers.proofs.InputBytes.{held_in}
use Rattle.relkvanu_barriers.proofs.aligning.is_aligning.Goals as goal

pub returns : goal.returns
returns c = c.contains.ensures.value ∙ sym (held_in c.args.inputs.now)
