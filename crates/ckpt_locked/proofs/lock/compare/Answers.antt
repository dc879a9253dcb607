-- Answers the goals of `compare`.
use Rattle.ckpt_locked.proofs.{Hand, Sat, ap, base_of, compares_as, joins_as, rules, ◌∙◌}
use Rattle.ckpt_locked.proofs.lock.compare.Goals as goal

pub join_seat-requires : goal.join_seat-requires
join_seat-requires c =
    let table = c.requires.table in
    let out = c.requires.out in
    let theirs = c.other.invariant in
    let none = ap (λ (m : Sat). m.1) theirs.0 in
    let id = ap (λ (h : Hand). h.lock.table_id) c.other.view_is ∙ c.requires.other in
    (search rules, id ∙ table.0, none, search rules, joins_as (base_of c.args.shared.now.key) _ c.args.seat.now.me _ c.other.inside.seat.me _ _ _ _ _ out.1 theirs.0)

pub load-requires : goal.load-requires
load-requires c =
    let table = c.requires.table in
    (search rules, search rules, compares_as (base_of c.args.shared.now.key) _ _ _ _ _ _ _ _ c.join_seat.ensures.2)
