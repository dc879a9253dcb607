-- Answers the goals of `outgoing`.
use Rattle.ckpt_model.proofs.Histories.Balance.{outgoing, none_leaks}
use Rattle.ckpt_model.proofs.laws.outgoing.Goals as goal

pub returns-clause-handed : goal.returns-clause-handed
returns-clause-handed c = outgoing

pub returns-clause-registered : goal.returns-clause-registered
returns-clause-registered c = none_leaks
