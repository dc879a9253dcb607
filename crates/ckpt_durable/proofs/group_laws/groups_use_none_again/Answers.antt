-- Answers the goals of `groups_use_none_again`.
use Rattle.ckpt_durable.proofs.GroupWorlds.{groups_use_none_again}
use Rattle.ckpt_durable.proofs.group_laws.groups_use_none_again.Goals as goal

pub returns : goal.returns
returns c = groups_use_none_again
