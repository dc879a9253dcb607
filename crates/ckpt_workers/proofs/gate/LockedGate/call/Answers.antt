-- The check finds this answer by itself. Written here, it makes the check refuse a wrong body much sooner.
use Rattle.ckpt_workers.proofs.{rules}
use Rattle.ckpt_workers.proofs.gate.LockedGate.call.Goals as goal

pub returns : goal.returns
returns c = search rules
