-- Answers the goals of `discard_round`.
use Rattle.ckpt_workers.proofs.{Some}
use Rattle.ckpt_workers.proofs.discard.discard_round.Goals as goal

pub returns-in-Some-clause-round : goal.returns-in-Some-clause-round
returns-in-Some-clause-round g c = (Some c.in-Some.answer, (c.ask-pass.result.0, rw c.in-Some.is at c.ask-pass.ensures, rw c.taken_by.ensures at c.report_each.ensures.reported))
