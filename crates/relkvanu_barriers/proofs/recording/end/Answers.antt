-- Answers the goals of `end`.
use Rattle.relkvanu_barriers.proofs.Imports.{◌∙◌, List, ap, Input, Recorder, phase_of}
use Rattle.relkvanu_barriers.proofs.InputBytes.{set_in}
use Rattle.ckpt_unaligned.specs.Steps.{settled}
use Rattle.relkvanu_barriers.specs.declared.recording.Recorder as memory
use Rattle.relkvanu_barriers.proofs.recording.end.Goals as goal

abbrev with_inputs : memory.Recorder → List Input → Recorder
with_inputs recorder inputs = record { inputs = inputs; latest = recorder.latest; phase = phase_of recorder.phase }

pub returns-clause-state : goal.returns-clause-state
returns-clause-state c = c.settle.ensures.state ∙ ap (λ (r : Recorder). (settled r).0) (ap (with_inputs c.args.recorder.now) (set_in c.args.inputs.now c.args.input 2))

pub returns-clause-answer : goal.returns-clause-answer
returns-clause-answer c = c.settle.ensures.answer ∙ ap (λ (r : Recorder). (settled r).1) (ap (with_inputs c.args.recorder.now) (set_in c.args.inputs.now c.args.input 2))
