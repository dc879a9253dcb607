-- No refusal looks at the shape, and of the state a restore sets only the shape by it.
use Rattle.ckpt_core.proofs.{state_of, same_refusal, reshaped_answers}
use Rattle.ckpt_ids.specs.declared.call.Call.TheVariants as call
use Rattle.ckpt_core.proofs.parts.Parts.restore_in.Goals as goal

pub restore-reply-requires-clause-accepted : goal.restore-reply-requires-clause-accepted
restore-reply-requires-clause-accepted c = same_refusal (state_of c.args.self.now) c.args.now c.args.target c.args.shape.now c.requires.accepted

pub returns-clause-ok : goal.returns-clause-ok
returns-clause-ok c =
    rw c.in_ok-shape.ensures.value (reshaped_answers c.args.self.now c.restore-reply.new.self c.args.now c.args.target c.args.shape.now c.restore-reply.result c.requires.accepted c.restore-reply.ensures)
