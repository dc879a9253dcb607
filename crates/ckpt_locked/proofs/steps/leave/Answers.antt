-- Answers the goals of `leave`.
use Rattle.ckpt_locked.proofs.{base_of, kept, passes_as, refl, rules}
use Rattle.ckpt_locked.proofs.steps.leave.Goals as goal

pub fetch_add-requires : goal.fetch_add-requires
fetch_add-requires c =
    let table = c.requires.table in
    let v = c.args.seat.now.me.0 in
    (search rules, search rules, passes_as (base_of c.args.shared.now.key) _ _ _ v.mine c.args.ticket v.found (kept v.mine.base v.found) table.1.1 c.requires.book.1 refl c.requires.book.0)
