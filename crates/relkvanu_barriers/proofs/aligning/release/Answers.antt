-- Answers the goals of `release`.
use Rattle.relkvanu_barriers.proofs.Imports.{arith}
use Rattle.relkvanu_barriers.proofs.InputBytes.{released_more}
use Rattle.relkvanu_barriers.proofs.aligning.release.Goals as goal

pub loop-input-preserved : goal.loop-input-preserved
loop-input-preserved c =
    let more = released_more c.args.inputs.now c.loop-input.inputs c.loop-input.input-index c.released_of.result (omega arith) (omega arith) c.released_of.ensures c.loop-input.invariant.done c.loop-input.invariant.left in
    record { done = more.0; left = more.1 }
