-- Answers the goals of `ask`.
use Rattle.ckpt_locked.proofs.{Some, asked, held, kept, slot_is}
use Rattle.std.proofs.lemmas.Result.{IfOk-weaker}
use Rattle.ckpt_locked.proofs.steps.ask.Goals as goal

pub slot_mut-requires : goal.slot_mut-requires
slot_mut-requires c =
    let v = c.args.seat.now.me.0 in
    (c.requires.table.0, (Some (kept v.mine.base v.found), held _ _ _ c.requires.book.1))

pub returns-clause-made : goal.returns-clause-made
returns-clause-made c =
    let m = c.args.seat.now.me in
    let book = kept m.0.mine.base m.0.found in
    let is = slot_is m _ (Some book) _ c.requires.book.1 c.slot_mut.ensures.value in
    IfOk-weaker c.apply_in.result _ _ (λ answer told. asked m c.args._ticket c.args.number c.args.call c.apply_in.new.slot answer c.requires.book told) (c.apply_in.ensures.made book is)
