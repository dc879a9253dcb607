-- Answers the goals of `loops_restore`.
use Rattle.ckpt_task.proofs.LoopLaws.{loops_restore}
use Rattle.ckpt_task.proofs.loops.loops_restore.Goals as goal

pub returns : goal.returns
returns c = loops_restore
