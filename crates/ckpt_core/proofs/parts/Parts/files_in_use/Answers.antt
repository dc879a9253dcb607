-- The registry has the uses of all live records.
use Rattle.ckpt_core.proofs.{◌∙◌, ap, present_in, Names.state_of}
use Rattle.ckpt_core.proofs.parts.Parts.files_in_use.Goals as goal

pub returns : goal.returns
unfolding state_of
returns c = c.present.ensures.value ∙ ap present_in c.requires.tied.uses_are
