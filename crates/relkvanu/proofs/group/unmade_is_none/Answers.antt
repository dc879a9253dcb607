-- Answers the goals of `unmade_is_none`.
use Rattle.relkvanu.proofs.Unmade.{asked_leaves}
use Rattle.relkvanu.proofs.group.unmade_is_none.Goals as goal

pub returns : goal.returns
returns c = asked_leaves
