-- Answers the goals of `latest`.
use Rattle.ckpt_model.proofs.Keeping.Latest.{takes_newest}
use Rattle.ckpt_model.proofs.laws.latest.Goals as goal

pub returns : goal.returns
returns c = takes_newest
