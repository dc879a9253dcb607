-- Answers the goals of `Parts::pending_place`.
use Rattle.ckpt_core.proofs.{place_of-parts, found_at-parts}
use Rattle.ckpt_core.proofs.parts.Parts.pending_place.Goals as goal

pub returns-clause-place : goal.returns-clause-place
returns-clause-place c = place_of-parts c.args.self.now c.args.id c.place.result c.requires c.place.ensures.pending c.recall_groups.ensures.stored c.place.ensures.found c.place.ensures.absent

pub returns-clause-found : goal.returns-clause-found
returns-clause-found c = λ r. found_at-parts c.args.self.now c.args.id c.place.result r c.requires c.place.ensures.pending c.recall_groups.ensures.stored c.place.ensures.in_order c.place.ensures.found
