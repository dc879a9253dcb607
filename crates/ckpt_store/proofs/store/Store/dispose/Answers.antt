-- Answers the goals of `Store::dispose`.
use Rattle.ckpt_store.proofs.{IsStored-dispose, Some, both_ways, eq-eqb, false, has_place, has_savepoint, none_place, on_some, refl, remove-place, true, ◌∙◌, ◌≡◌}
use Rattle.ckpt_store.proofs.store.Store.dispose.Goals as goal

pub returns-in_default-clause-absent : goal.returns-in_default-clause-absent
returns-in_default-clause-absent c =
    let absent : has_savepoint c.args.self.now c.args.id ≡ false = rw (← c.self.view_is) (none_place c.args.id c.self.inside.savepoints.items c.in_default.field-0 c.in_default.ensures.absent) in
    (λ e. absent, λ h. refl)

pub returns-in_default-clause-in_use : goal.returns-in_default-clause-in_use
returns-in_default-clause-in_use c =
    let absent : has_savepoint c.args.self.now c.args.id ≡ false = rw (← c.self.view_is) (none_place c.args.id c.self.inside.savepoints.items c.in_default.field-0 c.in_default.ensures.absent) in
    (λ e. absurd (cc), λ h. absurd (both_ways (has_savepoint c.args.self.now c.args.id) absent h.0))

pub invariant_of-self : goal.invariant_of-self
invariant_of-self c =
    let unused : c.self.inside.base ≡ Some c.args.id → ⊥ = λ e. both_ways c.eq.result c.if-eq.false (c.eq.ensures ∙ rw e (eq-eqb c.args.id c.args.id refl)) in
    let removed = on_some c.remove.result _ (c.remove.ensures.variant.1 (rw c.self.inside.savepoints.ok.0 c.in-Ok.ensures.found.0)) c.remove.ensures.items in
    rw (removed, remove-place c.args.id c.self.inside.savepoints.items c.in-Ok.place c.self.invariant.savepoints_rise c.in-Ok.ensures.found) (IsStored-dispose _ c.args.id _ c.self.invariant unused)

pub returns-clause-absent : goal.returns-clause-absent
returns-clause-absent c =
    let has : has_savepoint c.args.self.now c.args.id ≡ true = rw (← c.self.view_is) (has_place c.args.id c.self.inside.savepoints.items c.in-Ok.place c.in-Ok.ensures.found) in
    (λ e. absurd (cc), λ h. absurd (both_ways (has_savepoint c.args.self.now c.args.id) h has))

pub returns-clause-ok : goal.returns-clause-ok
returns-clause-ok c =
    let removed = on_some c.remove.result _ (c.remove.ensures.variant.1 (rw c.self.inside.savepoints.ok.0 c.in-Ok.ensures.found.0)) c.remove.ensures.items in
    rw (← c.self.view_is, removed, remove-place c.args.id c.self.inside.savepoints.items c.in-Ok.place c.self.invariant.savepoints_rise c.in-Ok.ensures.found) refl
