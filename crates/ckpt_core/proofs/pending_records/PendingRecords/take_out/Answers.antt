-- Answers the goals of `PendingRecords::take_out`.
use Rattle.ckpt_core.proofs.{◌≡◌, ◌∙◌, ◌+◌, ◌-◌, ◌<◌, not, Bool, ℕ, Some, cond, List, length, ap, sym, subst, find, filter, arith, slice_get, slice_get-get_or, LiesAt, Record, has_id, id_of}
use Rattle.ckpt_core.proofs.{remove-place, is_checkpoint, AreKept-removed, count-removed, found_at, from_bool-cond, its_place}
use Rattle.ckpt_core.proofs.pending_records.PendingRecords.take_out.Goals as goal

pub take_out-removed-requires : goal.take_out-removed-requires
take_out-removed-requires c = subst (λ (xs : List Record). c.args.place < length xs) (sym c.self.view_is) c.requires

pub invariant_of-self : goal.invariant_of-self
invariant_of-self c = let rs : List Record = c.self.inside.records.items in let removed : Record = c.take_out-removed.result in let one : Bool → ℕ = λ b. cond b 1 0 in
    let within : c.args.place < length rs = subst (λ (xs : List Record). c.args.place < length xs) (sym c.self.view_is) c.requires in
    let gone : c.from-gone.result ≡ cond (is_checkpoint removed) 1 0 = c.from-gone.ensures ∙ (from_bool-cond c.is_checkpoint.result ∙ ap one c.is_checkpoint.ensures) in
    let rest : (c.self.inside.checkpoints - c.from-gone.result) + cond (is_checkpoint removed) 1 0 ≡ c.self.inside.checkpoints =
    omega (arith, c.self.invariant.counted, count-removed c.args.place removed rs within c.take_out-removed.ensures.value) in
    let at : LiesAt id_of removed.id rs c.args.place = its_place c.args.place removed rs within c.take_out-removed.ensures.value in
    rw c.take_out-removed.ensures.rest
    (AreKept-removed removed.id c.args.place (c.self.inside.checkpoints - c.from-gone.result) removed rs c.self.inside.checkpoints c.self.invariant at c.take_out-removed.ensures.value rest)

pub returns-clause-value : goal.returns-clause-value
returns-clause-value c =
    let rs : List Record = c.self.inside.records.items in let within : c.args.place < length rs = subst (λ (xs : List Record). c.args.place < length xs) (sym c.self.view_is) c.requires in
    ap (λ (xs : List Record). slice_get xs c.args.place) (sym c.self.view_is) ∙ slice_get-get_or rs c.args.place c.take_out-removed.result within
    ∙ ap (λ r. Some r) (sym c.take_out-removed.ensures.value)

pub returns-clause-found : goal.returns-clause-found
returns-clause-found c = λ id lies. let rs : List Record = c.self.inside.records.items in
    let at : LiesAt id_of id rs c.args.place = subst (λ (xs : List Record). LiesAt id_of id xs c.args.place) (sym c.self.view_is) lies in
    ap (find (has_id id)) (sym c.self.view_is) ∙ found_at id c.args.place c.take_out-removed.result rs c.self.invariant.in_order at c.take_out-removed.ensures.value

pub returns-clause-rest : goal.returns-clause-rest
returns-clause-rest c = λ id lies. let rs : List Record = c.self.inside.records.items in
    let at : LiesAt id_of id rs c.args.place = subst (λ (xs : List Record). LiesAt id_of id xs c.args.place) (sym c.self.view_is) lies in
    c.take_out-removed.ensures.rest ∙ remove-place id rs c.args.place c.self.invariant.in_order at ∙ ap (filter (λ r. not (has_id id r))) c.self.view_is
