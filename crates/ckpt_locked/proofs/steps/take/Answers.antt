-- Answers the goals of `take`.
use Rattle.ckpt_locked.proofs.{Some, held, kept}
use Rattle.ckpt_locked.proofs.steps.take.Goals as goal

pub exchange-requires : goal.exchange-requires
exchange-requires c =
    let v = c.args.seat.now.me.0 in
    (c.requires.table.0, (Some (kept v.mine.base v.found), held _ _ _ c.requires.book.1))
