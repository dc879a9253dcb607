-- Answers the goals of `Parts::load`.
use Rattle.ckpt_core.proofs.parts.Parts.load.Goals as goal

pub returns-then-not-may_join-clause-damaged : goal.returns-then-not-may_join-clause-damaged
returns-then-not-may_join-clause-damaged c = λ e j. c.may_join.ensures.no c.if-not-may_join.true j

pub returns-then-not-names_each_once-clause-damaged : goal.returns-then-not-names_each_once-clause-damaged
returns-then-not-names_each_once-clause-damaged c = λ e j. c.names_each_once.ensures.no c.if-not-names_each_once.true (record { files = j.is_record.files; pins = j.is_record.pins })
