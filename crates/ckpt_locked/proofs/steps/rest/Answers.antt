-- Answers the goals of `rest`.
use Rattle.ckpt_locked.proofs.{base_of, rules, stirs, ◌∙◌}
use Rattle.ckpt_locked.proofs.steps.rest.Goals as goal

pub swap-requires : goal.swap-requires
swap-requires g c =
    let table = c.requires.table in
    (search rules, search rules, stirs (base_of c.args.shared.now.key) _ _ c.args.seat.now.me _ (λ _. c.mark_of-mark.result) c.requires.perch.0)

pub swap-requires-2 : goal.swap-requires-2
swap-requires-2 g c =
    let table = c.requires.table in
    (c.swap.ensures.0 ∙ table.0, search rules, stirs (base_of c.args.shared.now.key) _ _ c.swap.new.seat.me _ (λ _. 0) c.requires.perch.0)
