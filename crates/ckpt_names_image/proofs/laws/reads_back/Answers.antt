-- Answers the goals of `reads_back`.
use Rattle.ckpt_names_image.proofs.RoundTrips.{saved_back}
use Rattle.ckpt_names_image.proofs.laws.reads_back.Goals as goal

pub returns : goal.returns
returns c = saved_back
