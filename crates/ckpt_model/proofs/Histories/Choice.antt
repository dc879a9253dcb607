-- The record that the choice names is live and done.
use Rattle.ckpt_model.proofs.Names.{◌≡◌, ℕ, true, cond, eqb, List, [], ◌∷◌, refl, ◌⊎◌, Option, Some, None, cases_Bool, and_parts, eqb-true, Call, IsIn, IsInOrder, Record, IsIn-from_list_any, State}
use Rattle.ckpt_model.proofs.Names.{Opening, opened, files_of, is_done_checkpoint, is_present, last_checkpoint, choice_from, choice_of, record_of, replay, uses, IsSound, id_before}
use Rattle.ckpt_model.proofs.Names.{id_of_choice, ChoiceIsLive, common_steps, arith}
use Rattle.ckpt_model.proofs.Records.{present-from_IsHeld, same_record}
use Rattle.ckpt_model.proofs.Reordering.ExchangeLemmas.{find-only}
use Rattle.ckpt_model.proofs.Soundness.{is_savepoint, held-from_files_of}

-- the last done checkpoint of a list, from that of its rest
last_among : (r : Record) (rs : List Record) (id : ℕ) (o : Option ℕ) → ((i : ℕ) → last_checkpoint rs ≡ Some i → (s : Record) × IsIn s rs × (s.id ≡ i) × (is_done_checkpoint s ≡ true))
    → last_checkpoint rs ≡ o → elim o [ Some i ↦ Some i | None ↦ cond (is_done_checkpoint r) (Some r.id) None ] ≡ Some id
    → (s : Record) × IsIn s (r ∷ rs) × (s.id ≡ id) × (is_done_checkpoint s ≡ true)
last_among r rs id o h4 h5 h6 = grind (arith, common_steps, cases_Bool)

-- the last done checkpoint is one of the records
pub last_is_done : (rs : List Record) (id : ℕ) → last_checkpoint rs ≡ Some id → (r : Record) × IsIn r rs × (r.id ≡ id) × (is_done_checkpoint r ≡ true)
last_is_done [] id e = absurd (cc)
last_is_done (r ∷ rs) id e = last_among r rs id (last_checkpoint rs) (λ i k. last_is_done rs i k) refl e

-- what a choice names is a done checkpoint, or the base
names_is : (last base : Option ℕ) (id : ℕ) → id_of_choice (choice_from last base) ≡ Some id → (last ≡ Some id) ⊎ (base ≡ Some id)
names_is last base id h3 = grind (arith, common_steps)

-- a record is found by its number
pub found : (m : State) (r : Record) → IsInOrder id_before m.records → IsIn r m.records → record_of m r.id ≡ Some r
found m r order there = grind (arith, common_steps, find-only (λ x. eqb x.id r.id) r m.records, same_record, eqb-true)

-- the record that the choice of a sound state names
pub chosen_is_done : (m : State) (id : ℕ) → IsSound m → id_of_choice (choice_of m) ≡ Some id → (r : Record) × IsIn r m.records × (record_of m id ≡ Some r) × (r.done ≡ true)
unfolding choice_of
chosen_is_done m id s e =
    let is = names_is (last_checkpoint m.records) m.base id e in
    grind (arith, common_steps, is, last_is_done m.records id, found m, s.records.in_order, and_parts, s.base id, IsIn-from_list_any (is_savepoint id) m.records, eqb-true) steps 1000000

-- it is there with its files
pub choice_stands : (m : State) → IsSound m → (id : ℕ) → id_of_choice (choice_of m) ≡ Some id
    → (r : Record) × (record_of m id ≡ Some r) × (r.done ≡ true) × ((f : ℕ) → IsIn f (files_of (Some r)) → is_present (uses m.records) f ≡ true)
choice_stands m s id e =
    let q = chosen_is_done m id s e in
    (q.0, q.2, q.3, λ f h. present-from_IsHeld f m.records (held-from_files_of f (Some q.0) m.records (λ r k. grind (arith, common_steps)) h))

-- the law
pub choice_is_live : (o : Opening) (calls : List Call) → IsSound (replay (opened o) calls) → ChoiceIsLive o calls
choice_is_live o calls s = choice_stands (replay (opened o) calls) s
