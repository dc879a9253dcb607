-- Answers the goals of `relkvanu_take`.
use Rattle.relkvanu.proofs.Imports.{length, core_in}
use Rattle.relkvanu.proofs.Given.{take_at_most}
use Rattle.relkvanu.proofs.buffers.relkvanu_take.Goals as goal

pub take_from-answer-requires : goal.take_from-answer-requires
take_from-answer-requires c = record { fits = take_at_most (core_in c.deref_mut.result.now.now) (length c.args.files.now) }
