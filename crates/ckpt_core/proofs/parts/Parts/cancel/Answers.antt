-- After the drop the job has no base, and ends.
use Rattle.ckpt_core.proofs.{state_of, accepted_cancel, cancelled_answers}
use Rattle.ckpt_core.proofs.parts.Parts.cancel.Goals as goal

pub see-requires : goal.see-requires
see-requires c = accepted_cancel (state_of c.args.self.now) c.args.now c.requires.accepted

pub returns : goal.returns
returns c =
    let d = c.drop_cancelled-dropped in
    cancelled_answers c.args.self.now d.new.self c.args.now d.result.0 d.result.1 c.see.new.self c.clear_base.new.self c.requires.accepted
    d.ensures.drops d.ensures.dropped c.see.ensures c.clear_base.ensures
