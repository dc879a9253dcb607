-- Answers the goals of `wait`.
use Rattle.ckpt_locked.proofs.{awaits_as, base_of, rules, ◌∙◌}
use Rattle.ckpt_locked.proofs.steps.wait.Goals as goal

pub load-served-requires : goal.load-served-requires
load-served-requires g c =
    let i = c.loop.invariant in
    let table = c.requires.table in
    (i.2 ∙ table.0, search rules, awaits_as (base_of c.args.shared.now.key) _ _ _ c.args.seat.now.me.0.mine c.args.ticket table.1.1 (i.3 ∙ c.requires.waiting))
