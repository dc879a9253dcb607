-- Answers the goals of `draw_again`.
use Rattle.ckpt_outbox.proofs.{◌∙◌, nat_eq, sym, map_get, set_value_same, ticket_found}
use Rattle.ckpt_outbox.proofs.places.draw_again.Goals as goal

pub waits-requires : goal.waits-requires
waits-requires c = λ place within same. ticket_found (map_get nat_eq c.args.index.now) c.args.file _ _ _ c.in-Some.ensures.value same (c.requires place within)

pub returns-in_default-clause-kept : goal.returns-in_default-clause-kept
returns-in_default-clause-kept c = λ _.
    (c.get_mut.follows.holds c.in-Some.drawn.now).0 ∙ set_value_same (nat_eq c.args.file) c.args.index.now.entries c.in-Some.drawn.now (sym c.in-Some.ensures.value)
