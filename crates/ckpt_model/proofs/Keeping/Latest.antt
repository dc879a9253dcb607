-- A restart takes the newest done checkpoint, otherwise the base, otherwise nothing.
use Rattle.ckpt_model.proofs.Names.{◌≡◌, ℕ, ◌≤◌, true, false, List, [], ◌∷◌, refl, arith, Option, Some, None, cases_Bool, both_ways, ltb-true, IsIn, IsInOrder, ComesBefore-at, IsIn-from_list_any}
use Rattle.ckpt_model.proofs.Names.{list_any-from_IsIn, Record, State, is_done_checkpoint, last_checkpoint, choice_of, IsSound, id_before, IsNewest, TakesNewest, has_done_checkpoint, common_steps}
use Rattle.ckpt_model.proofs.Histories.Choice.{last_is_done}

-- a list with no last done checkpoint has none
pub last_is_none : (rs : List Record) (r : Record) → last_checkpoint rs ≡ None → IsIn r rs → is_done_checkpoint r ≡ false
last_is_none [] r e h = absurd h
last_is_none (x ∷ rs) r e h = grind (arith, common_steps, last_is_none rs r, cases_Bool)

-- no done checkpoint of a list in rising number is above the last
last_is_greatest : (rs : List Record) (id : ℕ) (r : Record) → IsInOrder id_before rs → last_checkpoint rs ≡ Some id → IsIn r rs → is_done_checkpoint r ≡ true → r.id ≤ id
last_is_greatest [] id r a e h d = absurd h
last_is_greatest (x ∷ rs) id r a e h d =
    grind (arith, common_steps, last_is_greatest rs id r a.1, last_is_none rs r, last_is_done rs id, ComesBefore-at id_before x, ltb-true, both_ways, cases_Bool)

-- so the last is the newest
last_is_newest : (m : State) (id : ℕ) → IsSound m → last_checkpoint m.records ≡ Some id → (r : Record) × IsNewest r m × (r.id ≡ id)
last_is_newest m id s e =
    let q = last_is_done m.records id e in (
      q.0,
      record {
        live = q.1;
        done = q.3;
        greatest = λ x h d. rw q.2 (last_is_greatest m.records id x s.records.in_order e h d);
      },
      q.2,
    )

-- the choice, from the last done checkpoint and the base
takes : (m : State) (last : Option ℕ) → IsSound m → last_checkpoint m.records ≡ last → TakesNewest m
unfolding choice_of
takes m None s e =
    let none : (b : has_done_checkpoint m ≡ true) → ⊥ = λ b.
    let q = IsIn-from_list_any is_done_checkpoint m.records b in
    both_ways (is_done_checkpoint q.0) (last_is_none m.records q.0 e q.1) q.2 in
    record {
      checkpoint = λ b. absurd (none b);
      savepoint = λ _ id base. rw (e, base) refl;
      fresh = λ _ base. rw (e, base) refl;
    }
takes m (Some id) s e =
    let q = last_is_newest m id s e in
    let some : has_done_checkpoint m ≡ true = list_any-from_IsIn is_done_checkpoint q.0 m.records (q.1).live (q.1).done in
    record {
      checkpoint = λ _. (q.0, q.1, rw (e, q.2) refl);
      savepoint = λ b. absurd (both_ways (has_done_checkpoint m) b some);
      fresh = λ b. absurd (both_ways (has_done_checkpoint m) b some);
    }

-- the law
pub takes_newest : (m : State) → IsSound m → TakesNewest m
takes_newest m s = takes m (last_checkpoint m.records) s refl
