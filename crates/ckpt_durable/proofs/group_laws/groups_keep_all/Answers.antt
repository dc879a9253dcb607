-- Answers the goals of `groups_keep_all`.
use Rattle.ckpt_durable.proofs.GroupWorlds.{groups_keep_all}
use Rattle.ckpt_durable.proofs.group_laws.groups_keep_all.Goals as goal

pub returns : goal.returns
returns c = groups_keep_all
