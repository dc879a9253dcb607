-- Answers the goals of `outbox`.
use Rattle.ckpt_model.proofs.Histories.Balance.{outbox}
use Rattle.ckpt_model.proofs.laws.outbox.Goals as goal

pub returns : goal.returns
returns c = outbox
