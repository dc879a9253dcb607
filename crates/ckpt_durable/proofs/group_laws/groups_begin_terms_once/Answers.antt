-- Answers the goals of `groups_begin_terms_once`.
use Rattle.ckpt_durable.proofs.GroupWorlds.{groups_begin_terms_once}
use Rattle.ckpt_durable.proofs.group_laws.groups_begin_terms_once.Goals as goal

pub returns : goal.returns
returns c = groups_begin_terms_once
