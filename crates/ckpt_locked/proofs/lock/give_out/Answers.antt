-- Answers the goals of `give_out`.
use Rattle.ckpt_locked.proofs.{Hand, List, ap, arith, length, length-newcomers}
use Rattle.ckpt_locked.proofs.lock.give_out.Goals as goal

pub push_reserved-requires : goal.push_reserved-requires
push_reserved-requires g c =
    let i = c.loop-number.invariant in
    let long = ap (λ (l : List Hand). length l) i.2 in
    let many = length-newcomers (record { table_id = c.args.first.now.table_id; base = c.args.first.now.me.0.mine.base }) c.loop-number.number in
    let room = c.requires.room.1 in
    let below = c.loop-number-test.true in
    omega arith
