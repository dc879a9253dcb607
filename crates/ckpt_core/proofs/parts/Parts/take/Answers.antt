-- The files that are taken keep their places.
use Rattle.ckpt_core.proofs.{taken_answers}
use Rattle.ckpt_core.proofs.parts.Parts.take.Goals as goal

pub returns-clause-ok : goal.returns-clause-ok
returns-clause-ok c = taken_answers c.args.self.now c.args.most c.take_metered.new.self c.in_ok-take_metered.field-0 c.requires.sound c.requires.accepted c.in_ok-take_metered.ensures.ok c.in_ok-take_metered.ensures.files
