-- Answers the goals of `acknowledgements`.
use Rattle.ckpt_model.proofs.Histories.Acknowledgements.{acknowledgements}
use Rattle.ckpt_model.proofs.laws.acknowledgements.Goals as goal

pub returns : goal.returns
returns c = acknowledgements
