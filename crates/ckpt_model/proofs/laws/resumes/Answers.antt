-- Answers the goals of `resumes`.
use Rattle.ckpt_model.proofs.Images.Alike.{go_on_alike}
use Rattle.ckpt_model.proofs.laws.resumes.Goals as goal

pub returns : goal.returns
returns c = go_on_alike
