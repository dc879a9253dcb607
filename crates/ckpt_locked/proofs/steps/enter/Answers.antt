-- Answers the goals of `enter`.
use Rattle.ckpt_locked.proofs.{base_of, draws_as, rules}
use Rattle.ckpt_locked.proofs.steps.enter.Goals as goal

pub fetch_add-ticket-requires : goal.fetch_add-ticket-requires
fetch_add-ticket-requires g c =
    let table = c.requires.table in
    (search rules, search rules, draws_as (base_of c.args.shared.now.key) _ _ _ c.args.seat.now.me.0.mine c.requires.idle)
