-- Answers the goals of `groups_durable`.
use Rattle.ckpt_durable.proofs.GroupWorlds.{groups_durable, groups_exact}
use Rattle.ckpt_durable.proofs.group_laws.groups_durable.Goals as goal

pub returns-clause-durable : goal.returns-clause-durable
returns-clause-durable c = groups_durable

pub returns-clause-exact : goal.returns-clause-exact
returns-clause-exact c = groups_exact
