-- Answers the goals of `is_taken`.
use Rattle.ckpt_outbox.proofs.{nat_eq, map_get, ticket_found}
use Rattle.ckpt_outbox.proofs.places.is_taken.Goals as goal

pub waits-requires : goal.waits-requires
waits-requires c = λ place within same. ticket_found (map_get nat_eq c.args.index.now) c.args.file _ _ _ c.in-Some.ensures.value same (c.requires place within)
