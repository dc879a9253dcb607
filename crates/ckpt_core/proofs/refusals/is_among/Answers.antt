-- Answers the goals of `is_among`.
use Rattle.ckpt_core.proofs.{◌∙◌, among-from_search}
use Rattle.ckpt_core.proofs.refusals.is_among.Goals as goal

pub returns : goal.returns
returns c = c.is_ok.ensures.value ∙ among-from_search c.args.files.now c.args.file c.binary_search.result c.requires c.binary_search.ensures.position
