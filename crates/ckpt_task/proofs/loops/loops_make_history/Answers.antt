-- Answers the goals of `loops_make_history`.
use Rattle.ckpt_task.proofs.LoopLaws.{loops_make_history}
use Rattle.ckpt_task.proofs.loops.loops_make_history.Goals as goal

pub returns : goal.returns
returns c = loops_make_history
