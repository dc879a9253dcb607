-- Answers the goals of `put_others`.
use Rattle.ckpt_image.proofs.{on_any_ok}
use Rattle.ckpt_image.proofs.writing.put_others.Goals as goal

pub returns-clause-failures : goal.returns-clause-failures
returns-clause-failures c = on_any_ok c.put-6.result _ c.failures_value.ensures.range
