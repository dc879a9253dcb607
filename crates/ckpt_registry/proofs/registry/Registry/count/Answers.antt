-- Answers the goals of `Registry::count`.
use Rattle.ckpt_registry.proofs.{arith, below-in_use, count-in_use, counter, in_use-in_order, rules, ◌+◌, ◌<◌, ◌^◌, ◌≡◌}
use Rattle.ckpt_registry.proofs.registry.Registry.count.Goals as goal

pub pins_of-requires-clause-kept : goal.pins_of-requires-clause-kept
pins_of-requires-clause-kept c = rw c.deref.ensures.value c.self.invariant.0.parts.kept

pub pins_of-requires-clause-below : goal.pins_of-requires-clause-below
pins_of-requires-clause-below c = rw c.deref.ensures.value (omega (arith, count-in_use _ _ _ _ c.self.invariant.0 c.args.file, below-in_use _ _ _ _ c.self.invariant.0 c.args.file))

pub overflow_add-result : goal.overflow_add-result
overflow_add-result c =
    let pins = rw c.deref.ensures.value at c.pins_of.ensures in
    let counted : c.unwrap_or-counted.result ≡ counter c.self.inside.uses.counts c.args.file = rw (c.unwrap_or-counted.ensures, c.copied.ensures, c.get.ensures.value) in
    let small : c.unwrap_or-counted.result + c.pins_of.result < 2 ^ 32 = omega
    (arith, pins, count-in_use _ _ _ _ c.self.invariant.0 c.args.file, below-in_use _ _ _ _ c.self.invariant.0 c.args.file) in
    search rules

pub returns-clause-value : goal.returns-clause-value
returns-clause-value c =
    let pins = rw c.deref.ensures.value at c.pins_of.ensures in
    let counted : c.unwrap_or-counted.result ≡ counter c.self.inside.uses.counts c.args.file = rw (c.unwrap_or-counted.ensures, c.copied.ensures, c.get.ensures.value) in
    rw (← c.self.view_is) (omega (arith, pins, count-in_use _ _ _ _ c.self.invariant.0 c.args.file))

pub returns-clause-in_order : goal.returns-clause-in_order
returns-clause-in_order c = rw (← c.self.view_is) (in_use-in_order c.self.inside.uses.acknowledged c.self.inside.uses.pinned.items)
