-- Answers the goals of `release_each`.
use Rattle.std.proofs.Common.{arith}
use Rattle.ckpt_align.proofs.ReleaseLemmas.{released_one_more}
use Rattle.ckpt_align.proofs.aligner.release_each.Goals as goal

pub loop-input-preserved : goal.loop-input-preserved
loop-input-preserved c =
    let more = released_one_more c.args.inputs.now c.loop-input.inputs c.loop-input.input-index c.released.result (omega arith) (omega arith) c.released.ensures c.loop-input.invariant.done c.loop-input.invariant.left in
    record { done = more.0; left = more.1 }
