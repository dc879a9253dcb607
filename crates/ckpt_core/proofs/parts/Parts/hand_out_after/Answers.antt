-- What is released can be put: it was in use, so it has room and is unknown, and it is ascending.
use Rattle.ckpt_core.proofs.{◌≡◌, ◌∙◌, ap, released, after_end, can_be_put}
use Rattle.ckpt_core.proofs.parts.Parts.hand_out_after.Goals as goal

pub put-requires : goal.put-requires
put-requires c =
    let us = c.args.self.now.registry in
    let is : c.end-files.result.now ≡ released us (after_end c.args.id c.args.self.now.ended.items us) =
    c.end-files.ensures.files ∙ ap (λ ids. released us (after_end c.args.id ids us)) c.deref.ensures.value in
    let k = can_be_put us (after_end c.args.id c.args.self.now.ended.items us) c.args.self.now.outbox c.end-files.result.now is c.requires.room c.requires.unknown in
    record { room = k.room; distinct = k.distinct; unknown = k.unknown }
