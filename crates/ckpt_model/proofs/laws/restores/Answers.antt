-- Answers the goals of `restores`.
use Rattle.ckpt_model.proofs.Keeping.Restored.{restores}
use Rattle.ckpt_model.proofs.laws.restores.Goals as goal

pub returns : goal.returns
returns c = restores
