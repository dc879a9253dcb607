-- What a record that is triggered pins does not change if no done record is dropped.
use Rattle.ckpt_model.proofs.Names.{◌≡◌, ℕ, Bool, true, eqb, List, [], ◌∷◌, map, refl, sym, ap, ◌∙◌, Some, filter, cases_Bool, both_ways, and_parts, eqb-true, IsIn, IsInOrder, Record, State}
use Rattle.ckpt_model.proofs.Names.{last_checkpoint, choice_of, record_of, pins_now, IsSound, id_before, id_of_choice, common_steps, arith}
use Rattle.ckpt_model.proofs.Records.Counts.{IsIn-changed, IsIn-from_find}
use Rattle.ckpt_model.proofs.Records.Lists.{in_order-changed}
use Rattle.ckpt_model.proofs.Histories.Choice.{found, chosen_is_done}

-- the last done checkpoint stays if no done checkpoint is dropped
pub last_stays : (q : Record → Bool) (rs : List Record) → ((r : Record) → IsIn r rs → r.done ≡ true → q r ≡ true) → last_checkpoint (map (λ r. r) (filter q rs)) ≡ last_checkpoint rs
last_stays q [] keeps = refl
last_stays q (r ∷ rs) keeps = grind (arith, common_steps, keeps, both_ways, and_parts, cases_Bool, last_stays q rs)

-- it reads the base, the last done checkpoint and the record of the choice alone
pub pins_same : (m k : State) → k.base ≡ m.base → last_checkpoint k.records ≡ last_checkpoint m.records → ((id : ℕ) → id_of_choice (choice_of m) ≡ Some id → record_of k id ≡ record_of m id)
    → pins_now k ≡ pins_now m
unfolding pins_now choice_of
pins_same m k base last same = grind (arith, common_steps)

-- so it stays if no done record is dropped
pub pins_stay : (m k : State) (q : Record → Bool) → IsSound m → k.base ≡ m.base → k.records ≡ map (λ r. r) (filter q m.records) → ((r : Record) → IsIn r m.records → r.done ≡ true → q r ≡ true)
    → pins_now k ≡ pins_now m
pins_stay m k q s base records keeps =
    let order : IsInOrder id_before k.records = rw records (in_order-changed (λ r. r) q m.records (λ r. refl) s.records.in_order) in
    pins_same m k base (ap last_checkpoint records ∙ last_stays q m.records keeps) (λ id e.
    let c = chosen_is_done m id s e in
    let its : (c.0).id ≡ id = eqb-true (c.0).id id (IsIn-from_find (λ x. eqb x.id id) c.0 m.records c.2).1 in
    ap (record_of k) (sym its) ∙ found k c.0 order (rw records (IsIn-changed (λ (r : Record). r) q c.0 m.records c.1 (keeps c.0 c.1 c.3))) ∙ sym c.2)
