-- Answers the goals of `groups_give_names_once`.
use Rattle.ckpt_durable.proofs.GroupWorlds.{groups_give_names_once}
use Rattle.ckpt_durable.proofs.group_laws.groups_give_names_once.Goals as goal

pub returns : goal.returns
returns c = groups_give_names_once
