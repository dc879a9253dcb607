-- Answers the goals of `reads_plain`.
use Rattle.ckpt_names_image.proofs.RoundTrips.{plain_as_ever}
use Rattle.ckpt_names_image.proofs.laws.reads_plain.Goals as goal

pub returns : goal.returns
returns c = plain_as_ever
