-- Answers the goals of `one_output`.
use Rattle.ckpt_once.proofs.Choosing.{one_output}
use Rattle.ckpt_once.proofs.laws.one_output.Goals as goal

pub returns : goal.returns
returns c = one_output
