-- Answers the goals of `refused_as_plain`.
use Rattle.ckpt_names_image.proofs.RoundTrips.{is_no_plain}
use Rattle.ckpt_names_image.proofs.laws.refused_as_plain.Goals as goal

pub returns : goal.returns
returns c = is_no_plain
