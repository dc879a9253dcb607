-- Answers the goals of `rouse`.
use Rattle.ckpt_locked.proofs.{base_of, cond, rules, stirs, ◌==◌}
use Rattle.ckpt_locked.proofs.steps.rouse.Goals as goal

pub compare_exchange-requires : goal.compare_exchange-requires
compare_exchange-requires c =
    let table = c.requires.table in
    (search rules, search rules, stirs (base_of c.args.shared.now.key) _ _ c.args.seat.now.me _ (λ n. cond (n == c.mark_of-mark.result) 0 n) (search rules))
