-- The registry has the uses of all live records.
use Rattle.ckpt_core.proofs.{counted_answers}
use Rattle.ckpt_core.proofs.parts.Parts.count.Goals as goal

pub returns : goal.returns
returns c = counted_answers c.args.self.now c.args.file c.count.result c.requires.sound c.requires.accepted c.count.ensures.value
