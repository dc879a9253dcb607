-- An acknowledgement that leaves its record pending keeps a coordinator sound; and lemmas on one that completes it, for Completions.
use Rattle.ckpt_model.proofs.Names.{◌≡◌, ℕ, ◌≤◌, Bool, true, false, not, ◌&&◌, ltb, leb, eqb, List, [], ◌∷◌, ◌++◌, map, refl, sym, ap, ◌∙◌, ⊎_elim, arith, count_by, Option, Some, filter, list_any}
use Rattle.ckpt_model.proofs.Names.{both_ways, not-true, not-false, not_from_false, and_parts, and_left, and_cases, and_from, or_parts, SubtaskId, Acked, IsIn, IsInOrder, AreDistinct, ascending}
use Rattle.ckpt_model.proofs.Names.{Record, uses, is_present, missing, has_acknowledged, acknowledged, is_subtask, IsIn-append_cases, IsIn-from_in_order, filter-all, not_in-from_test, State}
use Rattle.ckpt_model.proofs.Names.{is_checkpoint, is_pending, is_done_checkpoint, is_known, kept, unpinned, pending_of, replaced, with_records, superseded, IsSound, IsRecord, id_before, common_steps}
use Rattle.ckpt_model.proofs.Records.{count_by-changed, IsIn-from_changed, IsIn-from_find, fails-from_find, Holds, IsHeld, Holds-put_ack, absent-from_not_held, not_held, distinct-from_test}
use Rattle.ckpt_model.proofs.Records.{AreSoundRecords, IsSoundOutbox, sound_from, outbox_of, is_pending_checkpoint, later, newest_at_most, put_in, IsReplacing, put_in_replaces, cond_same}
use Rattle.ckpt_model.proofs.Records.{replaced_records, held_after_put, IsAcknowledged, acknowledged_is, acknowledged_pending, ascending-distinct}
use Rattle.ckpt_model.proofs.Answering.Accepted.{IsAcceptedAck}
use Rattle.ckpt_model.proofs.Soundness.Drops.{is_savepoint, savepoint_stays}

-- an acknowledgement of a pending record that is accepted
pub record IsAcking (m : State) (q : Record) (subtask : SubtaskId) (fresh reused : List ℕ) : Type 0 where
  pub there : IsIn q m.records
  pub pending : q.done ≡ false
  pub of_subtask : is_subtask q.shape subtask ≡ true
  pub first : has_acknowledged q subtask ≡ false
  pub once : AreDistinct (fresh ++ reused)
  pub unknown : (f : ℕ) → IsIn f fresh → is_known m f ≡ false
  pub present : (f : ℕ) → IsIn f reused → is_present (uses m.records) f ≡ true

-- the acknowledgement of a pending record that is accepted
pub acking : (m : State) (now id : ℕ) (subtask : SubtaskId) (fresh reused : List ℕ) (q : Record) → IsAcceptedAck m now id subtask fresh reused → pending_of m.records id ≡ Some q
    → IsAcking m q subtask fresh reused
acking m now id subtask fresh reused q a e =
    let found = IsIn-from_find (λ r. is_pending r && eqb r.id id) q m.records e in
    grind (arith, common_steps, not-true, and_parts, a.of_subtask, distinct-from_test, fails-from_find, a.unknown, not-false, a.present)

-- the moment is the only thing that an accepted call changes before its effect, and an acknowledgement does not read it
pub acking_at : (m : State) (latest : ℕ) (q : Record) (subtask : SubtaskId) (fresh reused : List ℕ) → IsAcking m q subtask fresh reused → IsAcking (record m { latest = latest }) q subtask fresh reused
acking_at m latest q subtask fresh reused a = grind (arith, common_steps)

-- the record with it
abbrev pub with_ack : Record → SubtaskId → List ℕ → List ℕ → Record
with_ack q subtask fresh reused = acknowledged q subtask (ascending (fresh ++ reused))

-- it is in order, of its subtasks, with ascending files
pub with_ack_is : {m : State} {q : Record} {subtask : SubtaskId} {fresh reused : List ℕ} → IsSound m → IsAcking m q subtask fresh reused → IsAcknowledged (with_ack q subtask fresh reused)
with_ack_is {m} {q} {subtask} {fresh} {reused} s a = grind (arith, common_steps, acknowledged_is, ascending-distinct)

-- the outbox has none of its files
files_not_out : {m : State} {q : Record} {subtask : SubtaskId} {fresh reused : List ℕ} → IsSound m → IsAcking m q subtask fresh reused → (f : ℕ) → IsIn f (ascending (fresh ++ reused))
    → IsIn f (m.waiting ++ m.taken) → ⊥
files_not_out {m} {q} {subtask} {fresh} {reused} s a f h out = let cases = IsIn-append_cases f fresh reused (IsIn-from_in_order ltb f (fresh ++ reused) h) in
    grind (arith, common_steps, not_in-from_test f (m.waiting ++ m.taken), a.unknown f, (outbox_of s).unused f out, a.present f, cases)

-- the outbox beside a list of records with one acknowledgement more
pub outbox_acked : {m : State} {q : Record} {subtask : SubtaskId} {fresh reused : List ℕ} (new : Record) → IsSound m → IsAcking m q subtask fresh reused → new.id ≡ q.id
    → new.acks ≡ (with_ack q subtask fresh reused).acks → new.pins ≡ q.pins → IsSoundOutbox (map (put_in new) m.records) m.waiting m.taken
outbox_acked {m} {q} {subtask} {fresh} {reused} new s a id acks pins =
    let its : Acked = record { subtask = subtask; files = ascending (fresh ++ reused) } in
    let in_with : (f : ℕ) → Holds f new → Holds f (with_ack q subtask fresh reused) = grind (arith, common_steps) in
    let none : (f : ℕ) → IsIn f (m.waiting ++ m.taken) → IsHeld f (map (put_in new) m.records) → ⊥ = λ f out h.
    let old : IsHeld f m.records → ⊥ = not_held f m.records ((outbox_of s).unused f out) in
    let by_new : Holds f new → ⊥ = λ (k : Holds f new). ⊎_elim (λ (i : IsIn f its.files). files_not_out s a f i out) (λ (i : Holds f q). old (q, a.there, i)) (Holds-put_ack f its q (in_with f k)) in
    ⊎_elim by_new old (held_after_put f m.records q new (put_in_replaces q new m.records s.records.in_order a.there id) h) in
    record {
      unused = λ f out. absent-from_not_held f (map (put_in new) m.records) (none f out);
      apart = (outbox_of s).apart;
    }

-- a done savepoint is not the pending record
pub savepoint_is_other : (id : ℕ) (x q : Record) → q.done ≡ false → is_savepoint id x ≡ true → x ≡ q → ⊥
savepoint_is_other id x q pending t e = both_ways x.done (ap (λ z. z.done) e ∙ pending) (and_parts x.done (not (is_checkpoint x)) (and_parts (x.done && not (is_checkpoint x)) (eqb x.id id) t).0).0

-- a done savepoint stays, if nothing is dropped and a pending record is replaced
pub savepoint_beside : {change : Record → Record} {old new : Record} {rs : List Record} (id : ℕ) → IsReplacing change old new rs → old.done ≡ false → list_any (is_savepoint id) rs ≡ true
    → list_any (is_savepoint id) (map change (filter (λ _. true) rs)) ≡ true
savepoint_beside {change} {old} {new} {rs} id p pending e = grind (arith, common_steps, savepoint_is_other, savepoint_stays)

-- a filter that keeps all leaves all
pub nothing_dropped : (change : Record → Record) (rs : List Record) → map change (filter (λ _. true) rs) ≡ map change rs
nothing_dropped change rs = ap (map change) (filter-all (λ _. true) rs (λ x h. refl))

-- the record still lacks an acknowledgement
pub ack_pending_is_sound : (m : State) (q : Record) (subtask : SubtaskId) (fresh reused : List ℕ) → IsSound m → IsAcking m q subtask fresh reused
    → eqb (missing (with_ack q subtask fresh reused)) 0 ≡ false → IsSound (with_records m (replaced m.records (with_ack q subtask fresh reused)))
ack_pending_is_sound m q subtask fresh reused s a lacks =
    let w : Record = with_ack q subtask fresh reused in
    let rs : List Record = m.records in
    let p : IsReplacing (put_in w) q w rs = put_in_replaces q w rs s.records.in_order a.there refl in
    let i : IsRecord w = acknowledged_pending q subtask (ascending (fresh ++ reused)) (s.records.each q a.there) a.pending (with_ack_is s a) lacks in
    let records : AreSoundRecords m.opening m.next (map (put_in w) (filter (λ _. true) rs)) =
    replaced_records (λ _. true) s.records p a.pending refl refl i (and_left q.done (is_checkpoint q) a.pending) in
    sound_from (with_records m (replaced rs w)) (record {
      config = s.config;
      shape = s.shape;
      latest = s.latest;
      first = s.first;
      next_from = s.next_from;
      next_to = s.next_to;
      failures = s.failures;
      base = λ id e. ap (list_any (is_savepoint id)) (sym (nothing_dropped (put_in w) rs)) ∙ savepoint_beside id p a.pending (s.base id e);
      idle = λ ne. absurd (both_ways q.done a.pending (s.idle ne q a.there));
    }) (rw (← (nothing_dropped (put_in w) rs)) records) (outbox_acked w s a refl refl refl)

-- completion

-- filtering after a change is filtering by the changed, and two changes are one
pub fused : (u g : Record → Record) (k : Record → Bool) (rs : List Record) → map u (filter k (map g rs)) ≡ map (λ x. u (g x)) (filter (λ x. k (g x)) rs)
fused u g k [] = grind (arith, common_steps)
fused u g k (x ∷ rs) = grind (arith, common_steps, fused u g k rs)

-- what is held after a completion's drop was held before
pub held_before_kept : (dropped : Record → Bool) (ended : Option ℕ) (rs : List Record) (f : ℕ) → IsHeld f (kept dropped ended rs) → IsHeld f rs
held_before_kept dropped ended rs f h = grind (arith, common_steps, IsIn-from_changed)

-- letting the pins go keeps done checkpoints
unpinned_checkpoint : (ended : ℕ) (x : Record) → is_done_checkpoint (unpinned (Some ended) x) ≡ is_done_checkpoint x
unpinned_checkpoint ended x = cond_same is_done_checkpoint (eqb x.id ended) (record x { pins = [] }) x refl

-- no more done checkpoints than are retained
pub retained_after : (m : State) (r : Record) → is_checkpoint r ≡ true → IsInOrder id_before m.records
    → count_by is_done_checkpoint (kept (superseded m r) (Some r.id) m.records) ≤ m.opening.config.retained
retained_after m r checkpoint order =
    let n : ℕ = m.opening.config.retained in
    let test : Record → Bool = λ x. is_done_checkpoint x && not (leb n (later is_done_checkpoint x m.records)) in
    let fewer = count_by-changed is_done_checkpoint test (unpinned (Some r.id)) (λ x. not (superseded m r x)) m.records
    (grind (arith, common_steps, unpinned_checkpoint, both_ways, and_cases, not-true, or_parts, later, and_from, not_from_false)) in
    omega (arith, fewer, newest_at_most is_done_checkpoint n m.records order)

-- what is not subsumed does not come before
pub not_before : (m : State) (r x : Record) → is_checkpoint r ≡ true → not (superseded m r x) ≡ true → is_pending_checkpoint x ≡ true → r.id ≤ x.id
not_before m r x checkpoint stays waits = grind (arith, common_steps)
