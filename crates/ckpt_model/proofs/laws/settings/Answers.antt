-- Answers the goals of `settings`.
use Rattle.ckpt_model.proofs.Keeping.Configured.{configures_now, opening_is}
use Rattle.ckpt_model.proofs.laws.settings.Goals as goal

pub returns-clause-opening : goal.returns-clause-opening
returns-clause-opening c = opening_is

pub returns-clause-configures : goal.returns-clause-configures
returns-clause-configures c = configures_now
