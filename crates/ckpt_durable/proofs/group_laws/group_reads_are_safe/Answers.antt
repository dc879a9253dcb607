-- Answers the goals of `group_reads_are_safe`.
use Rattle.ckpt_durable.proofs.GroupWorlds.{group_reads_are_safe}
use Rattle.ckpt_durable.proofs.group_laws.group_reads_are_safe.Goals as goal

pub returns : goal.returns
returns c = group_reads_are_safe
