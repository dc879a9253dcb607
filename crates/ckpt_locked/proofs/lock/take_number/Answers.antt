-- Answers the goals of `take_number`.
use Rattle.ckpt_locked.proofs.{base_of, numbers_as, refl, rules, ◌∙◌}
use Rattle.ckpt_locked.proofs.lock.take_number.Goals as goal

pub compare_exchange-found-requires : goal.compare_exchange-found-requires
compare_exchange-found-requires g c =
    let i = c.loop.invariant in
    let table = c.requires.table in
    let fresh = c.requires.fresh in
    (i.2 ∙ table.0, search rules, numbers_as (base_of c.args.shared.now.key) _ _ _ c.args.seat.now.me.0.mine.base c.args.number _ (i.3 ∙ fresh.0) fresh.1 refl)
