-- Answers the goals of `Store::add_savepoint`.
use Rattle.ckpt_store.proofs.{Err, IsStored-add, List, Ok, OnErr, OnOk, Record, Result, ap, arith, by_id, has_savepoint, insert-put, length, put, refl, ◌∙◌, ◌≡◌}
use Rattle.ckpt_store.proofs.store.Store.add_savepoint.Goals as goal

-- what a call leaves that can't fail
on_ok : {T E P Q : Type 0} (r : Result T E) → OnOk r P → OnErr r Q → (Q → ⊥) → P
on_ok (Ok t) h k never = h
on_ok (Err e) h k never = absurd (never k)

pub invariant_of-self : goal.invariant_of-self
invariant_of-self c =
    let row : List Record = c.self.inside.savepoints.items in
    let spare = ap (λ s. s.spare) c.self.view_is in
    let put : c.insert.new.self.items ≡ put by_id c.args.done row = on_ok c.insert.result c.insert.ensures.items c.insert.ensures.full (λ no. omega (arith, spare, c.requires.room))
    ∙ insert-put by_id c.args.done row c.place_for-place.result c.place_for-place.ensures.bound (rw (← c.id.ensures.value) c.place_for-place.ensures.parted) in
    rw put (IsStored-add _ c.args.done _ c.self.invariant c.id.ensures.done c.requires.savepoint (ap (λ s. has_savepoint s c.args.done.id) c.self.view_is ∙ c.requires.new)
    (omega (arith, ap (λ s. length s.savepoints) c.self.view_is, c.requires.few)))

pub returns-clause-value : goal.returns-clause-value
returns-clause-value c =
    let spare = ap (λ s. s.spare) c.self.view_is in
    let put : c.insert.new.self.items ≡ put by_id c.args.done c.self.inside.savepoints.items = on_ok c.insert.result c.insert.ensures.items c.insert.ensures.full
    (λ no. omega (arith, spare, c.requires.room))
    ∙ insert-put by_id c.args.done _ c.place_for-place.result c.place_for-place.ensures.bound (rw (← c.id.ensures.value) c.place_for-place.ensures.parted) in
    rw (← c.self.view_is, put) refl
