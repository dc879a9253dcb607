-- The check finds this answer by itself. Written here, it makes the check refuse a wrong body much sooner.
use Rattle.ckpt_locked.proofs.{arith}
use Rattle.std.proofs.lemmas.Grind.{common_steps}
use Rattle.ckpt_locked.proofs.steps.apply_in.Goals as goal

pub returns : goal.returns
returns c = grind (arith, common_steps)
