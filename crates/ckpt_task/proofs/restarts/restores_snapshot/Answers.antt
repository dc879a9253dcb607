-- Answers the goals of `restores_snapshot`.
use Rattle.ckpt_task.proofs.Restores.{restores_snapshot}
use Rattle.ckpt_task.proofs.restarts.restores_snapshot.Goals as goal

pub returns : goal.returns
returns c = restores_snapshot
