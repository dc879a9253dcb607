-- What a drop, a trigger and an acknowledgement put at the end of waiting, and that the files balance.
use Rattle.ckpt_model.proofs.Names.{◌≡◌, ℕ, Bool, true, not, ltb, List, [], ◌∷◌, ◌++◌, map, refl, sym, ◌⊎◌, inr, ⊎_elim, Option, Some, None, filter, or_parts, append-nil, SubtaskId, Acked, Kind, IsIn}
use Rattle.ckpt_model.proofs.Names.{ascending, Record, uses, is_present, IsIn-append_left, IsIn-append_cases, IsIn-in_order, IsIn-from_in_order, AreDistinct-left, State, is_known, in_outbox, drop}
use Rattle.ckpt_model.proofs.Names.{replaced, with_records, superseded, triggered, ack, IsSound, registered_as, common_steps, arith}
use Rattle.ckpt_model.proofs.Records.{Holds, Holds-put_ack_new, Holds-put_ack_old, IsHeld, IsHeld-from_present, not_held, Holds-put_ack, put_in, IsReplacing, put_in_replaces, held_after_put}
use Rattle.ckpt_model.proofs.Records.{held_by_put, held_beside_put}
use Rattle.ckpt_model.proofs.Soundness.{held_before_filter, new_record, held-from_pins, IsAcking, with_ack, held_before_kept, having, completed}
use Rattle.ckpt_model.proofs.Histories.Balances.{IsEven, even_same, even_then, even_behind, even_held, even_dropped, even_added}

-- from these records and this outbox to the state after, with these files registered
pub record IsSpread (rs : List Record) (waiting taken : List ℕ) (after : State) (in_ : List ℕ) : Type 0 where
  pub out : List ℕ
  pub waits : after.waiting ≡ waiting ++ out
  pub fetched : after.taken ≡ taken
  pub even : IsEven rs after.records in_ out

-- nothing changes
pub unspread : (m : State) → IsSpread m.records m.waiting m.taken m []
unspread m = record { out = []; waits = sym (append-nil m.waiting); fetched = refl; even = even_same m.records [] }

-- a drop
pub drop_spreads : (m : State) (dropped : Record → Bool) → IsSpread m.records m.waiting m.taken (drop m dropped None) []
unfolding drop
drop_spreads m dropped = record { out = _; waits = refl; fetched = refl; even = even_dropped m.records _ (held_before_filter (λ r. not (dropped r)) m.records) }

-- a trigger, of a record that pins files that are held
pub trigger_spreads : (k : State) (kind : Kind) (due : ℕ) (rs : List Record) (waiting taken : List ℕ) → IsSpread rs waiting taken k []
    → IsSpread rs waiting taken (record (triggered k kind) { due = due }) []
unfolding triggered
trigger_spreads k kind due rs waiting taken d =
    let new : Record = new_record k kind in
    record {
      out = d.out;
      waits = d.waits;
      fetched = d.fetched;
      even = even_behind rs k.records (k.records ++ new ∷ []) [] d.out d.even (even_held k.records (k.records ++ new ∷ []) (λ f h. (h.0, IsIn-append_left h.0 k.records (new ∷ []) h.1, h.2)) (λ f h.
          grind (arith, common_steps, held-from_pins k f, IsIn-append_cases h.0 k.records (new ∷ []) h.1) steps 1000000));
    }

-- acknowledgements

-- a record with one acknowledgement more, done or not, holds its files and what it held
even_acked : (m : State) (q : Record) (subtask : SubtaskId) (fresh reused : List ℕ) (done : Bool) → IsSound m → IsAcking m q subtask fresh reused
    → IsEven m.records (map (put_in (record (with_ack q subtask fresh reused) { done = done })) m.records) fresh []
even_acked m q subtask fresh reused done s a =
    let files : List ℕ = ascending (fresh ++ reused) in
    let its : Acked = record { subtask = subtask; files = files } in
    let w : Record = with_ack q subtask fresh reused in
    let c : Record = record w { done = done } in
    let rs : List Record = m.records in
    let p : IsReplacing (put_in c) q c rs = put_in_replaces q c rs s.records.in_order a.there refl in
    let new : (f : ℕ) → IsIn f fresh → IsHeld f rs → ⊥ = λ f h k. not_held f rs (or_parts (is_present (uses rs) f) (in_outbox m f) (a.unknown f h)).0 k in
    let now_held : (f : ℕ) → IsIn f fresh → IsHeld f (map (put_in c) rs) = λ f h.
    held_by_put f rs q c a.there refl (Holds-put_ack_new f its q (IsIn-in_order ltb f (fresh ++ reused) (IsIn-append_left f fresh reused h))) in
    let named : (f : ℕ) → Holds f w → IsIn f fresh ⊎ IsHeld f rs = λ f h.
    grind (arith, common_steps, IsHeld-from_present f rs, a.present, IsIn-append_cases f fresh reused, IsIn-from_in_order, Holds-put_ack f its q h) steps 1000000 in
    even_added rs (map (put_in c) rs) fresh (AreDistinct-left fresh reused a.once) new now_held
    (λ f h. held_beside_put f rs q c p a.there refl (Holds-put_ack_old f its q) h)
    (λ f h. ⊎_elim (λ (k : Holds f c). named f k) (λ (k : IsHeld f rs). inr k) (held_after_put f rs q c p h))

-- one that leaves the record pending
pub pending_spreads : (m : State) (q : Record) (subtask : SubtaskId) (fresh reused : List ℕ) → IsSound m → IsAcking m q subtask fresh reused
    → IsSpread m.records m.waiting m.taken (with_records m (replaced m.records (with_ack q subtask fresh reused))) fresh
pending_spreads m q subtask fresh reused s a = grind (arith, common_steps, append-nil m.waiting, even_acked m q subtask fresh reused q.done s a) steps 1000000

-- one that completes it, whatever else is set
pub completed_spreads : (m : State) (q : Record) (subtask : SubtaskId) (fresh reused : List ℕ) (failures : ℕ) (completed_at base : Option ℕ) → IsSound m → IsAcking m q subtask fresh reused
    → IsSpread m.records m.waiting m.taken
    (record (drop (having m (completed q subtask fresh reused)) (superseded (having m (completed q subtask fresh reused)) (completed q subtask fresh reused))
    (Some q.id)) { failures = failures; completed = completed_at; base = base }) fresh
unfolding drop
completed_spreads m q subtask fresh reused failures completed_at base s a =
    let c : Record = completed q subtask fresh reused in
    let between : List Record = map (put_in c) m.records in
    record {
      out = _;
      waits = refl;
      fetched = refl;
      even = even_then m.records between _ fresh _ (even_acked m q subtask fresh reused true s a) (even_dropped between _ (held_before_kept (superseded (having m c) c) (Some c.id) between));
    }

-- a late one
pub late_spreads : (m : State) (subtask : SubtaskId) (fresh reused : List ℕ)
    → IsSpread m.records m.waiting m.taken (ack m None subtask fresh reused).0 (registered_as (ack m None subtask fresh reused).1 fresh (filter (λ f. not (is_known m f)) fresh))
unfolding ack
late_spreads m subtask fresh reused = grind (arith, common_steps)
