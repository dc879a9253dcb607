-- Answers the goals of `Parts::savepoints`.
use Rattle.ckpt_core.proofs.{arith, savepoints-parts}
use Rattle.ckpt_core.proofs.parts.Parts.savepoints.Goals as goal

pub overflow_add-result : goal.overflow_add-result
overflow_add-result c =
    let all = savepoints-parts c.args.self.now c.recall_groups.ensures.pending c.savepoints-2.ensures.stored in
    omega (arith, all, c.savepoints.ensures, c.savepoints-2.ensures.value, c.requires.sound.records.savepoints_to)

pub returns : goal.returns
returns c = omega (arith, savepoints-parts c.args.self.now c.recall_groups.ensures.pending c.savepoints-2.ensures.stored, c.savepoints.ensures, c.savepoints-2.ensures.value)
