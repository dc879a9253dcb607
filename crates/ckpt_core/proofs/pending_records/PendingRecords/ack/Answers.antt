-- Answers the goals of `PendingRecords::ack`.
use Rattle.ckpt_core.proofs.{◌≡◌, ◌∙◌, ◌<◌, List, Some, Result, Ok, Err, OnOk, OnErr, find, length, refl}
use Rattle.ckpt_core.proofs.{sym, ap, subst, on_ok_weaker, slice_get, slice_get-get_or, LiesAt, Record, acknowledged, IsPending}
use Rattle.ckpt_core.proofs.{IsPending-put, has_id, id_of, find-place, IsIn-from_find, AreKept-changed, changed, its_place, set-place}
use Rattle.ckpt_core.proofs.pending_records.PendingRecords.ack.Goals as goal

pub ack_expected_metered-requires : goal.ack_expected_metered-requires
ack_expected_metered-requires c =
    let rs : List Record = c.self.inside.records.items in let within : c.args.place < length rs = subst (λ (xs : List Record). c.args.place < length xs) (sym c.self.view_is) c.requires.there in
    c.requires.expected c.index_mut.result.now (ap (λ (xs : List Record). slice_get xs c.args.place) (sym c.self.view_is) ∙ slice_get-get_or rs c.args.place c.index_mut.result.now within
    ∙ ap (λ r. Some r) (sym c.index_mut.ensures.value))

-- what follows from either result
either : {T E P Q R : Type 0} (r : Result T E) → (P → R) → (Q → R) → OnOk r P → OnErr r Q → R
either (Ok x) f g p q = f p
either (Err x) f g p q = g q

pub invariant_of-self : goal.invariant_of-self
invariant_of-self c = let rs : List Record = c.self.inside.records.items in let held : Record = c.index_mut.result.now in
    let new : Record = c.ack_expected_metered.new.self in let ack : Record → Record = λ r. acknowledged r c.args.subtask c.args.files in
    let within : c.args.place < length rs = subst (λ (xs : List Record). c.args.place < length xs) (sym c.self.view_is) c.requires.there in
    let at : LiesAt id_of held.id rs c.args.place = its_place c.args.place held rs within c.index_mut.ensures.value in
    let one : (r : Record) → find (has_id held.id) rs ≡ Some r → IsPending r = λ r e. c.self.invariant.pending r (IsIn-from_find (has_id held.id) r rs e).0 in
    let expected : (r : Record) → find (has_id held.id) rs ≡ Some r → IsPending (ack r) = λ r e.
    let facts = c.requires.expected r (ap (λ (xs : List Record). slice_get xs c.args.place) (sym c.self.view_is) ∙ find-place held.id rs c.args.place c.self.invariant.in_order at ∙ e) in
    IsPending-put r c.args.subtask c.args.files (one r e) facts.0 facts.1 in
    either c.ack_expected_metered.result (λ e. AreKept-changed held.id c.args.place ack held new rs c.self.inside.checkpoints c.self.invariant at c.index_mut.ensures.value e (λ r. refl) (λ r. refl) expected)
    (λ e. AreKept-changed held.id c.args.place (λ r. r) held new rs c.self.inside.checkpoints c.self.invariant at c.index_mut.ensures.value e (λ r. refl) (λ r. refl) one)
    c.ack_expected_metered.ensures.ok c.ack_expected_metered.ensures.err

pub returns-clause-ok : goal.returns-clause-ok
returns-clause-ok c = λ id lies. let rs : List Record = c.self.inside.records.items in let held : Record = c.index_mut.result.now in
    let new : Record = c.ack_expected_metered.new.self in let ack : Record → Record = λ r. acknowledged r c.args.subtask c.args.files in
    let at : LiesAt id_of id rs c.args.place = subst (λ (xs : List Record). LiesAt id_of id xs c.args.place) (sym c.self.view_is) lies in
    on_ok_weaker c.ack_expected_metered.result (λ (e : new ≡ ack held). set-place id ack held new rs c.args.place c.self.invariant.in_order at c.index_mut.ensures.value e
    ∙ ap (changed id ack) c.self.view_is) c.ack_expected_metered.ensures.ok
