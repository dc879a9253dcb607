-- Answers the goals of `new_pass`.
use Rattle.ckpt_locked.proofs.{base_of, rules, splits_as}
use Rattle.ckpt_locked.proofs.lock.new_pass.Goals as goal

pub split_seat-seat-requires : goal.split_seat-seat-requires
split_seat-seat-requires g c =
    let table = c.requires.table in
    (search rules, search rules, splits_as (base_of c.args.shared.now.key) _ _ _ c.requires.fresh.0)
