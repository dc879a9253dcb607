-- Answers the goals of `has_open`.
use Rattle.relkvanu_barriers.proofs.Imports.{◌∙◌, sym}
use Rattle.relkvanu_barriers.proofs.InputBytes.{open_in}
use Rattle.relkvanu_barriers.proofs.aligning.has_open.Goals as goal

pub returns : goal.returns
returns c = c.contains.ensures.value ∙ sym (open_in c.args.inputs.now)
