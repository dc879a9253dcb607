-- Answers the goals of `Registry::present`.
use Rattle.ckpt_registry.proofs.{arith, below-in_use, in_use-in_order, index_map_len-in_use, ◌∙◌}
use Rattle.ckpt_registry.proofs.registry.Registry.present.Goals as goal

pub returns-clause-value : goal.returns-clause-value
returns-clause-value c = c.len.ensures.len ∙ rw (← c.self.view_is) (index_map_len-in_use _ _ _ _ c.self.invariant.0 c.len.ensures.unique)

pub returns-clause-in_order : goal.returns-clause-in_order
returns-clause-in_order c = rw (← c.self.view_is) (in_use-in_order c.self.inside.uses.acknowledged c.self.inside.uses.pinned.items)

pub returns-clause-below : goal.returns-clause-below
returns-clause-below c = rw (← c.self.view_is) (below-in_use _ _ _ _ c.self.invariant.0)

pub returns-clause-few : goal.returns-clause-few
returns-clause-few c = omega (arith, c.len.ensures.len, c.self.invariant.0.has_room, c.self.inside.released.small)
