-- Answers the goals of `Outbox::is_taken`.
use Rattle.ckpt_outbox.proofs.{arith, common_steps, distinct-apart, list_any_flip}
use Rattle.ckpt_outbox.proofs.outbox.Outbox.is_taken.Goals as goal

pub returns : goal.returns
returns c =
    grind (arith, common_steps, list_any_flip c.args.file, distinct-apart c.self.inside.waiting.items c.self.inside.taken c.self.invariant.distinct c.args.file, c.self.invariant.known c.args.file)
