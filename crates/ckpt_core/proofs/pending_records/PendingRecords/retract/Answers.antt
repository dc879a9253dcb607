-- Answers the goals of `PendingRecords::retract`.
use Rattle.ckpt_core.proofs.{◌∙◌, ◌<◌, List, Some, length, refl, sym, ap, subst, slice_get, slice_get-get_or, LiesAt, Record, without_ack, IsPending-without, has_id, id_of, IsIn-from_find}
use Rattle.ckpt_core.proofs.{AreKept-changed, changed, its_place, set-place}
use Rattle.ckpt_core.proofs.pending_records.PendingRecords.retract.Goals as goal

pub retract-requires : goal.retract-requires
retract-requires c =
    let rs : List Record = c.self.inside.records.items in let within : c.args.place < length rs = subst (λ (xs : List Record). c.args.place < length xs) (sym c.self.view_is) c.requires.there in
    c.requires.acknowledged c.index_mut.result.now (ap (λ (xs : List Record). slice_get xs c.args.place) (sym c.self.view_is) ∙ slice_get-get_or rs c.args.place c.index_mut.result.now within
    ∙ ap (λ r. Some r) (sym c.index_mut.ensures.value))

pub invariant_of-self : goal.invariant_of-self
invariant_of-self c = let rs : List Record = c.self.inside.records.items in let held : Record = c.index_mut.result.now in
    let within : c.args.place < length rs = subst (λ (xs : List Record). c.args.place < length xs) (sym c.self.view_is) c.requires.there in
    let at : LiesAt id_of held.id rs c.args.place = its_place c.args.place held rs within c.index_mut.ensures.value in
    AreKept-changed held.id c.args.place (without_ack c.args.subtask) held c.retract.new.self rs c.self.inside.checkpoints c.self.invariant at c.index_mut.ensures.value c.retract.ensures.value
    (λ r. refl) (λ r. refl) (λ r e. IsPending-without r c.args.subtask (c.self.invariant.pending r (IsIn-from_find (has_id held.id) r rs e).0))

pub returns : goal.returns
returns c = λ id lies. let rs : List Record = c.self.inside.records.items in
    let at : LiesAt id_of id rs c.args.place = subst (λ (xs : List Record). LiesAt id_of id xs c.args.place) (sym c.self.view_is) lies in
    set-place id (without_ack c.args.subtask) c.index_mut.result.now c.retract.new.self rs c.args.place c.self.invariant.in_order at c.index_mut.ensures.value c.retract.ensures.value
    ∙ ap (changed id (without_ack c.args.subtask)) c.self.view_is
