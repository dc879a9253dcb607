-- Answers the goals of `kept`.
use Rattle.ckpt_model.proofs.Keeping.Kept.{keeps, keeps_through}
use Rattle.ckpt_model.proofs.laws.kept.Goals as goal

pub returns-clause-step : goal.returns-clause-step
returns-clause-step c = keeps

pub returns-clause-calls : goal.returns-clause-calls
returns-clause-calls c = keeps_through
