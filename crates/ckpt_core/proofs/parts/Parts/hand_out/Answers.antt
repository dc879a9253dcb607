-- What is released can be put into the outbox.
use Rattle.ckpt_core.proofs.{without, can_be_put}
use Rattle.ckpt_core.proofs.parts.Parts.hand_out.Goals as goal

pub put-requires : goal.put-requires
put-requires c =
    let us = c.args.self.now.registry in
    let k = can_be_put us (without c.deref.result.now us) c.args.self.now.outbox c.release-files.result.now c.release-files.ensures.files c.requires.room c.requires.unknown in
    record { room = k.room; distinct = k.distinct; unknown = k.unknown }
