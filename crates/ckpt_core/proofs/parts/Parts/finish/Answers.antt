-- The record that is taken out lacks no acknowledgement, so it finishes.
use Rattle.ckpt_core.proofs.{◌∙◌}
use Rattle.ckpt_core.proofs.parts.Parts.finish.Goals as goal

pub unwrap-requires : goal.unwrap-requires
unwrap-requires c = c.ok.ensures.variant ∙ c.finish.ensures.complete.1 (c.requires.full c.take_out.result c.take_out.ensures.value)
