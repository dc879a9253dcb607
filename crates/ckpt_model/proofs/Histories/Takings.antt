-- What an acknowledgement that is accepted for a pending record does to the records: it puts one in the place of that record, and a completion drops some.
use Rattle.ckpt_model.proofs.Names.{◌≡◌, ℕ, Bool, true, false, List, [], ◌++◌, map, refl, sym, ◌⊎◌, filter, both_ways, SubtaskId, Acked, IsIn, put_ack, ascending, Record, State, is_checkpoint}
use Rattle.ckpt_model.proofs.Names.{replaced, IsSound, common_steps, arith}
use Rattle.ckpt_model.proofs.Records.{IsIn-changed, IsIn-from_changed, put_in, IsReplacing, put_in_replaces, unpinned_replaces}
use Rattle.ckpt_model.proofs.Soundness.{IsAcking, with_ack, nothing_dropped, completed, ending, staying, left_by, left_is}

-- one acknowledgement more in a pending record
pub record IsTaken (rs : List Record) (q : Record) (a : Acked) (after : List Record) : Type 0 where
  pub change : Record → Record
  pub keep : Record → Bool
  pub new : Record
  pub records : after ≡ map change (filter keep rs)
  pub replaces : IsReplacing change q new rs
  pub acks : new.acks ≡ put_ack a q.acks
  pub pins : new.done ≡ false → new.pins ≡ q.pins
  pub savepoints : (r : Record) → IsIn r rs → r.done ≡ true → is_checkpoint r ≡ false → keep r ≡ true

-- a record after it is the new one, or one of the others
pub taken_from : {rs : List Record} {q : Record} {a : Acked} {after : List Record} (i : IsTaken rs q a after) → (y : Record) → IsIn y after → (y ≡ i.new) ⊎ ((y.id ≡ q.id → ⊥) × IsIn y rs)
taken_from {rs} {q} {a} {after} i y h = grind (arith, common_steps, IsIn-from_changed)

-- the record put in has the number of the old one
pub taken_id : {rs : List Record} {q : Record} {a : Acked} {after : List Record} (i : IsTaken rs q a after) → IsIn q rs → (i.new).id ≡ q.id
taken_id {rs} {q} {a} {after} i there = grind (arith, common_steps)

-- a done savepoint is there after
pub savepoint_kept : {rs : List Record} {q : Record} {a : Acked} {after : List Record} → IsTaken rs q a after → q.done ≡ false → (r : Record) → IsIn r rs → r.done ≡ true → is_checkpoint r ≡ false
    → IsIn r after
savepoint_kept {rs} {q} {a} {after} i pending r h done savepoint = grind (arith, common_steps, IsIn-changed, both_ways)

-- the record is pending still
pub taken_pending : (m : State) (q : Record) (subtask : SubtaskId) (fresh reused : List ℕ) → IsSound m → IsAcking m q subtask fresh reused
    → IsTaken m.records q (record { subtask = subtask; files = ascending (fresh ++ reused) }) (replaced m.records (with_ack q subtask fresh reused))
taken_pending m q subtask fresh reused s a =
    let w : Record = with_ack q subtask fresh reused in
    record {
      change = put_in w;
      keep = λ _. true;
      new = w;
      records = sym (nothing_dropped (put_in w) m.records);
      replaces = put_in_replaces q w m.records s.records.in_order a.there refl;
      acks = refl;
      pins = λ _. refl;
      savepoints = λ r _ _ _. refl;
    }

-- a completion drops no done savepoint
not_superseded : (m : State) (q c r : Record) → IsReplacing (put_in c) q c m.records → q.done ≡ false → IsIn r m.records → r.done ≡ true → is_checkpoint r ≡ false → staying m c r ≡ true
not_superseded m q c r g pending h done savepoint = grind (arith, common_steps)

-- the record is completed
pub taken_completed : (m : State) (q : Record) (subtask : SubtaskId) (fresh reused : List ℕ) → IsSound m → IsAcking m q subtask fresh reused
    → IsTaken m.records q (record { subtask = subtask; files = ascending (fresh ++ reused) }) (left_by m (completed q subtask fresh reused))
taken_completed m q subtask fresh reused s a =
    let c : Record = completed q subtask fresh reused in
    record {
      change = ending c;
      keep = staying m c;
      new = record c { pins = [] };
      records = left_is m c;
      replaces = unpinned_replaces q c m.records s.records.in_order a.there refl;
      acks = refl;
      pins = λ e. absurd (both_ways true e refl);
      savepoints = λ r h done savepoint. not_superseded m q c r (put_in_replaces q c m.records s.records.in_order a.there refl) a.pending h done savepoint;
    }
