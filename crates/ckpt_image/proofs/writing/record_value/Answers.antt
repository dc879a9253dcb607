-- Answers the goals of `record_value`.
use Rattle.ckpt_image.proofs.writing.record_value.Goals as goal

pub returns-clause-fits : goal.returns-clause-fits
returns-clause-fits c = record { shape = c.recall-2.ensures; order = c.in_ok-acks.ensures.order; acks = c.in_ok-acks.ensures.fits; pins = c.recall.ensures }
