-- The check finds this answer by itself. Written here, it makes the check refuse a wrong body much sooner.
use Rattle.ckpt_script.proofs.{rules}
use Rattle.ckpt_script.proofs.runs.run_keyed.Goals as goal

pub returns : goal.returns
returns c = search rules
