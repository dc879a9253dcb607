-- Answers the goals of `Parts::test`.
use Rattle.ckpt_core.proofs.{rules, Names.refusal}
use Rattle.ckpt_core.proofs.parts.Parts.test.Goals as goal

pub returns-in-Dispose-clause-refused : goal.returns-in-Dispose-clause-refused
unfolding refusal
returns-in-Dispose-clause-refused c = search rules
