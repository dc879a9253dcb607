-- Answers the goals of `RecordParts::files`.
use Rattle.ckpt_registry.proofs.{ap, sym, ◌∙◌, files_in, files_of_all}
use Rattle.ckpt_registry.proofs.record_parts.RecordParts.files.Goals as goal

pub returns : goal.returns
returns c = c.as_slice.ensures.value ∙ sym (files_of_all c.self.inside.cuts.items c.self.inside.files.items c.self.invariant) ∙ ap files_in c.self.view_is
