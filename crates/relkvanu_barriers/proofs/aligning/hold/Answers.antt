-- Answers the goals of `hold`.
use Rattle.relkvanu_barriers.proofs.Imports.{ap, List, Input}
use Rattle.relkvanu_barriers.proofs.InputBytes.{set_in}
use Rattle.relkvanu_barriers.proofs.aligning.hold.Goals as goal

pub returns : goal.returns
returns c = ap (λ (inputs : List Input). record { inputs = inputs; latest = c.args.id }) (set_in c.args.inputs.now c.args.input 1)
