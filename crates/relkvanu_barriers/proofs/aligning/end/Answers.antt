-- Answers the goals of `end`.
use Rattle.relkvanu_barriers.proofs.Imports.{◌≡◌, ◌∙◌, ap, List, Ok, Alignment, with_input, Input, Ended, alignment_in}
use Rattle.relkvanu_barriers.proofs.InputBytes.{set_in}
use Rattle.ckpt_align.specs.Steps.{settled}
use Rattle.relkvanu_barriers.proofs.aligning.end.Goals as goal

pub returns-clause-state : goal.returns-clause-state
returns-clause-state c = c.settle.ensures.state ∙ ap (λ (a : Alignment). (settled a).0) (ap (λ (inputs : List Input). record { inputs = inputs; latest = c.args.aligner.now.latest }) (set_in c.args.inputs.now c.args.input 2))

pub returns-clause-answer : goal.returns-clause-answer
returns-clause-answer c = c.settle.ensures.answer ∙ ap (λ (a : Alignment). (settled a).1) (ap (λ (inputs : List Input). record { inputs = inputs; latest = c.args.aligner.now.latest }) (set_in c.args.inputs.now c.args.input 2))
