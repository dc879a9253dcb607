-- Answers the goals of `deliver`.
use Rattle.relkvanu_barriers.proofs.Imports.{◌∙◌, List, ap, map, slice_set, Input, Held, Phase, input_of, phase_of}
use Rattle.relkvanu_barriers.proofs.InputBytes.{set_in}
use Rattle.relkvanu_barriers.proofs.recording.deliver.Goals as goal

pub returns : goal.returns
returns c =
    ap (λ (inputs : List Input). record { inputs = inputs; latest = c.args.id; phase = phase_of c.begun-recorder.result }) (set_in c.args.inputs.now c.args.input 1)
    ∙ ap (λ (p : Phase). record { inputs = slice_set (map input_of c.args.inputs.now) c.args.input Held; latest = c.args.id; phase = p }) c.begun-recorder.ensures
