-- What a call that is no acknowledgement does to the records: it drops some, and it may trigger one.
use Rattle.ckpt_model.proofs.Names.{◌≡◌, ℕ, Bool, true, false, not, List, [], ◌∷◌, ◌++◌, map, refl, sym, ap, ◌∙◌, ◌⊎◌, inl, Option, Some, None, filter, append-nil, append_assoc, map-id, Kind, Call}
use Rattle.ckpt_model.proofs.Names.{Dispose, Answer, Refused, IsIn, Record, IsIn-append_left, IsIn-append_cases, State, is_checkpoint, pins_now, common_steps, arith}
use Rattle.ckpt_model.proofs.Records.{IsIn-changed, IsIn-from_changed}
use Rattle.ckpt_model.proofs.Soundness.{nothing_dropped, new_record}
use Rattle.ckpt_model.proofs.Records.Pins.{pins_same}

-- a record that was triggered in a state
pub record IsTriggered (m : State) (y : Record) : Type 0 where
  pub id : y.id ≡ m.next
  pub pending : y.done ≡ false
  pub acks : y.acks ≡ []
  pub pins : y.pins ≡ pins_now m

-- some records are dropped, and some triggered; of the done savepoints those of one number at most are dropped
pub record IsMoved (m : State) (disposed : Option ℕ) (after : List Record) : Type 0 where
  pub keep : Record → Bool
  pub new : List Record
  pub records : after ≡ map (λ r. r) (filter keep m.records) ++ new
  pub triggered : (y : Record) → IsIn y new → IsTriggered m y
  pub savepoints : (r : Record) → IsIn r m.records → r.done ≡ true → is_checkpoint r ≡ false → (keep r ≡ true) ⊎ (disposed ≡ Some r.id)

-- a record after it was there before, or was triggered
pub moved_from : {m : State} {disposed : Option ℕ} {after : List Record} → IsMoved m disposed after → (y : Record) → IsIn y after → IsIn y m.records ⊎ IsTriggered m y
moved_from {m} {disposed} {after} i y h = let cases = IsIn-append_cases y (map (λ r. r) (filter i.keep m.records)) i.new in
    grind (arith, common_steps, cases, IsIn-from_changed (λ (r : Record). r) i.keep y m.records, i.records, i.triggered y)

-- a done savepoint is there after, if it is not the one disposed of
pub savepoint_moved : {m : State} {disposed : Option ℕ} {after : List Record} → IsMoved m disposed after → (r : Record) → IsIn r m.records → r.done ≡ true → is_checkpoint r ≡ false
    → (disposed ≡ Some r.id → ⊥) → IsIn r after
savepoint_moved {m} {disposed} {after} i r h done savepoint other = grind (arith, common_steps, IsIn-append_left, IsIn-changed)

-- nothing is done to the records
pub unmoved : (m : State) (disposed : Option ℕ) → IsMoved m disposed m.records
unmoved m disposed = record {
  keep = λ _. true;
  new = [];
  records = sym (append-nil (map (λ r. r) (filter (λ _. true) m.records)) ∙ nothing_dropped (λ r. r) m.records ∙ map-id m.records);
  triggered = λ y h. absurd h;
  savepoints = λ r _ _ _. inl refl;
}

-- some are dropped, of the done savepoints those of one number at most
pub dropped_moves : (m : State) (dropped : Record → Bool) (disposed : Option ℕ)
    → ((r : Record) → IsIn r m.records → r.done ≡ true → is_checkpoint r ≡ false → (dropped r ≡ false) ⊎ (disposed ≡ Some r.id))
    → IsMoved m disposed (map (λ r. r) (filter (λ r. not (dropped r)) m.records))
dropped_moves m dropped disposed other = record {
  keep = λ r. not (dropped r);
  new = [];
  records = sym (append-nil _);
  triggered = λ y h. absurd h;
  savepoints = λ r h done savepoint. grind (arith, common_steps, other r h done savepoint);
}

-- and then one is triggered, if the number and the choice are those of the state before
pub triggered_moves : (m k : State) (kind : Kind) (disposed : Option ℕ) → k.next ≡ m.next → pins_now k ≡ pins_now m → IsMoved m disposed k.records
    → IsMoved m disposed (k.records ++ new_record k kind ∷ [])
triggered_moves m k kind disposed next pins i =
    let its : Record = new_record k kind in
    record {
      keep = i.keep;
      new = i.new ++ its ∷ [];
      savepoints = i.savepoints;
      records = ap (λ rs. rs ++ its ∷ []) i.records ∙ append_assoc (map (λ r. r) (filter i.keep m.records)) i.new (its ∷ []);
      triggered = λ y h. grind (arith, common_steps, i.triggered y, IsIn-append_cases y i.new (its ∷ []) h);
    }

-- the moment does not change what a new record pins
pins_at : (m : State) (latest : ℕ) → pins_now (record m { latest = latest }) ≡ pins_now m
pins_at m latest = pins_same m (record m { latest = latest }) refl refl (λ id e. refl)

-- nor does it move records
pub moves_at : (m : State) (latest : ℕ) (disposed : Option ℕ) (after : List Record) → IsMoved (record m { latest = latest }) disposed after → IsMoved m disposed after
moves_at m latest disposed after i = record {
  keep = i.keep;
  new = i.new;
  records = i.records;
  savepoints = i.savepoints;
  triggered = λ y h. let t = i.triggered y h in record { id = t.id; pending = t.pending; acks = t.acks; pins = t.pins ∙ pins_at m latest };
}

-- the number that a call disposes of, if it is accepted
abbrev pub disposed_of : Call → Option ℕ
disposed_of (Dispose id) = Some id
disposed_of call = None

-- and with this answer
abbrev pub disposed_by : Call → Answer → Option ℕ
disposed_by (Dispose id) (Refused why) = None
disposed_by call answer = disposed_of call
