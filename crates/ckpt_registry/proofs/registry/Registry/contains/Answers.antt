-- Answers the goals of `Registry::contains`.
use Rattle.ckpt_registry.proofs.{is_present-in_use, is_some-get, ◌∙◌}
use Rattle.ckpt_registry.proofs.registry.Registry.contains.Goals as goal

pub returns : goal.returns
returns c = rw (c.contains_key.ensures, ← c.self.view_is) (is_some-get c.self.inside.uses.counts c.self.invariant.0.parts.range c.args.file ∙ is_present-in_use _ _ _ _ c.self.invariant.0 c.args.file)
