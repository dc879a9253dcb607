-- Answers the goals of `classified`.
use Rattle.ckpt_terms.proofs.Classes.{classes}
use Rattle.ckpt_terms.proofs.laws.classified.Goals as goal

pub returns : goal.returns
returns c = λ m i f. classes m f i
