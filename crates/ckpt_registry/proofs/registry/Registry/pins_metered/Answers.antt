-- Answers the goals of `Registry::pins_metered`.
use Rattle.ckpt_registry.proofs.{pins-from_dedup, ◌∙◌}
use Rattle.ckpt_registry.proofs.registry.Registry.pins_metered.Goals as goal

pub files_pinned-requires-clause-kept : goal.files_pinned-requires-clause-kept
files_pinned-requires-clause-kept c = rw c.deref.ensures.value c.self.invariant.0.parts.kept

pub returns-clause-files : goal.returns-clause-files
returns-clause-files c =
    let r = c.self.inside.uses in
    let moved = rw (c.in_ok-all.ensures.items, c.deref.ensures.value) at c.sort_unstable.ensures.permutation in
    c.of.ensures ∙ rw (← c.self.view_is) (pins-from_dedup r.acknowledged r.pinned.items c.args.id _ _ moved c.sort_unstable.ensures.sorted c.dedup.ensures.filtered)
