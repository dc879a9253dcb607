-- Answers the goals of `RecordParts::len`.
use Rattle.ckpt_registry.proofs.{ap, sym, ◌∙◌, length, List, Part, length-parts_from}
use Rattle.ckpt_registry.proofs.record_parts.RecordParts.len.Goals as goal

pub returns : goal.returns
returns c = c.len.ensures ∙ c.self.inside.cuts.ok.0 ∙ sym (length-parts_from 0 c.self.inside.cuts.items c.self.inside.files.items) ∙ ap (λ (ps : List Part). length ps) c.self.view_is
