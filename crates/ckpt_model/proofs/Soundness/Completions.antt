-- An acknowledgement that completes a record keeps a coordinator sound, and so does a late one.
use Rattle.ckpt_model.proofs.Names.{common_steps, ◌≡◌, ℕ, ◌≤◌, Bool, true, false, not, eqb, List, [], ◌++◌, map, refl, sym, ap, ◌∙◌, ⊎_elim, arith, Option, Some, None, filter, list_any, cases_Bool}
use Rattle.ckpt_model.proofs.Names.{both_ways, not-true, not_from_false, and_left, and_right, or_parts, ltb-true, lt-ltb, SubtaskId, IsIn, IsInOrder, AreDistinct, Record, uses, is_present, missing}
use Rattle.ckpt_model.proofs.Names.{IsIn-append_left, IsIn-append_right, IsIn-append_cases, IsIn-from_filter, IsInOrder-map, AreDistinct-append, AreDistinct-left, AreDistinct-right, AreDistinct-apart}
use Rattle.ckpt_model.proofs.Names.{AreDistinct-filter, test-from_IsIn, Running, State, is_checkpoint, is_known, in_outbox, kept, unpinned, drop, released_by, replaced, with_records, superseded, ack}
use Rattle.ckpt_model.proofs.Names.{IsSound, IsRecord, id_before}
use Rattle.ckpt_model.proofs.Records.{AreSoundRecords, IsSoundOutbox, sound_from, outbox_of, is_pending_checkpoint, put_in, IsReplacing, put_in_replaces, unpinned_replaces, cond_same}
use Rattle.ckpt_model.proofs.Records.{replaced_records, completed_records, completed_is}
use Rattle.ckpt_model.proofs.Soundness.Drops.{is_savepoint, savepoint_stays, outbox_dropped}
use Rattle.ckpt_model.proofs.Soundness.Acks.{IsAcking, with_ack, with_ack_is, outbox_acked, savepoint_is_other, fused, held_before_kept, retained_after, not_before}

-- the record with all its acknowledgements, the state that has it, and the change that its completion makes
abbrev pub completed : Record → SubtaskId → List ℕ → List ℕ → Record
completed q subtask fresh reused = record (with_ack q subtask fresh reused) { done = true }

-- the state with c in the place of the record of its number
abbrev pub having : State → Record → State
having m c = with_records m (replaced m.records c)

-- the same change of one record, without the pins of c
abbrev pub ending : Record → Record → Record
ending c x = unpinned (Some c.id) (put_in c x)

-- what the completion of c does not drop
abbrev pub staying : State → Record → Record → Bool
staying m c x = not (superseded (having m c) c (put_in c x))

-- the records after it
abbrev pub left_by : State → Record → List Record
left_by m c = kept (superseded (having m c) c) (Some c.id) (having m c).records

-- they are those of the state before, filtered and then changed
pub left_is : (m : State) (c : Record) → left_by m c ≡ map (ending c) (filter (staying m c) m.records)
left_is m c = fused (unpinned (Some c.id)) (put_in c) (λ x. not (superseded (having m c) c x)) m.records

-- the state in which c is put in the place of q, which an accepted acknowledgement completed
pub record IsCompleting (m : State) (q c : Record) : Type 0 where
  pub there : IsIn q m.records
  pub pending : q.done ≡ false
  pub id : c.id ≡ q.id
  pub kind : c.kind ≡ q.kind
  pub started : c.started ≡ q.started
  pub done : c.done ≡ true
  pub free : IsRecord (record c { pins = [] })
  pub outbox : IsSoundOutbox (map (put_in c) m.records) m.waiting m.taken

-- letting the pins go keeps pending checkpoints
pending_of_ending : (c x : Record) → is_pending_checkpoint (ending c x) ≡ is_pending_checkpoint (put_in c x)
pending_of_ending c x = cond_same is_pending_checkpoint (eqb (put_in c x).id c.id) (record (put_in c x) { pins = [] }) (put_in c x) refl

-- the records after it are sound
records_completed : (m : State) (q c : Record) → IsSound m → IsCompleting m q c → AreSoundRecords m.opening m.next (left_by m c)
records_completed m q c s i =
    let rs : List Record = m.records in
    let p : IsReplacing (ending c) q (record c { pins = [] }) rs = unpinned_replaces q c rs s.records.in_order i.there i.id in
    let g : IsReplacing (put_in c) q c rs = put_in_replaces q c rs s.records.in_order i.there i.id in
    let order : IsInOrder id_before (map (put_in c) rs) =
    IsInOrder-map id_before id_before (put_in c) rs (λ x y e. lt-ltb (put_in c x).id (put_in c y).id (omega (arith, ltb-true x.id y.id e, g.same x, g.same y))) s.records.in_order in
    let of_checkpoint : is_checkpoint c ≡ true → AreSoundRecords m.opening m.next (map (ending c) (filter (staying m c) rs)) = λ (e : is_checkpoint c ≡ true).
    completed_records (staying m c) s.records p i.pending i.done i.kind i.started i.free (rw (← left_is m c) (retained_after (having m c) c e order)) (λ x _ stays same waits.
    omega (arith, i.id, g.same x, not_before (having m c) c (put_in c x) e stays (sym (pending_of_ending c x) ∙ ap is_pending_checkpoint same ∙ waits))) in
    rw (left_is m c) (⊎_elim of_checkpoint (λ e. replaced_records (staying m c) s.records p i.pending i.kind i.started i.free (and_right c.done (is_checkpoint c) e)) (cases_Bool (is_checkpoint c)))

-- of a savepoint's completion each done savepoint is left
pub savepoints_left : (m : State) (q c : Record) (id : ℕ) → IsSound m → IsCompleting m q c → is_checkpoint c ≡ false → list_any (is_savepoint id) m.records ≡ true
    → list_any (is_savepoint id) (left_by m c) ≡ true
savepoints_left m q c id s i e there =
    let rs : List Record = m.records in
    let p : IsReplacing (ending c) q (record c { pins = [] }) rs = unpinned_replaces q c rs s.records.in_order i.there i.id in
    grind (arith, common_steps, is_savepoint, not_from_false, put_in, and_left, savepoint_is_other, p.cases, left_is, savepoint_stays) steps 1000000

-- and so is the outbox
outbox_completed : (m : State) (q c : Record) → IsSound m → IsCompleting m q c → IsSoundOutbox (left_by m c) (m.waiting ++ released_by (having m c) (superseded (having m c) c) (Some c.id)) m.taken
outbox_completed m q c s i = outbox_dropped (map (put_in c) m.records) (left_by m c) m.waiting m.taken i.outbox (held_before_kept (superseded (having m c) c) (Some c.id) (map (put_in c) m.records))

-- a completion, with the settings after
pub completed_is_sound : (m : State) (q c : Record) (failures : ℕ) (completed_at base : Option ℕ) → IsSound m → IsCompleting m q c
    → ((id : ℕ) → base ≡ Some id → list_any (is_savepoint id) (left_by m c) ≡ true) → (m.mode ≡ Running → failures ≤ m.opening.config.tolerable)
    → IsSound (record (drop (having m c) (superseded (having m c) c) (Some c.id)) { failures = failures; completed = completed_at; base = base })
unfolding drop
completed_is_sound m q c failures completed_at base s i base_left few =
    sound_from (record (drop (having m c) (superseded (having m c) c) (Some c.id)) { failures = failures; completed = completed_at; base = base }) (record {
      config = s.config;
      shape = s.shape;
      latest = s.latest;
      first = s.first;
      next_from = s.next_from;
      next_to = s.next_to;
      base = base_left;
      failures = few;
      idle = λ ne. absurd (both_ways q.done i.pending (s.idle ne q i.there));
    }) (records_completed m q c s i) (outbox_completed m q c s i)

-- an acknowledgement after which none is missing completes its record
pub completing : (m : State) (q : Record) (subtask : SubtaskId) (fresh reused : List ℕ) → IsSound m → IsAcking m q subtask fresh reused → missing (with_ack q subtask fresh reused) ≡ 0
    → IsCompleting m q (completed q subtask fresh reused)
completing m q subtask fresh reused s a none = let free = completed_is q (s.records.each q a.there) (with_ack q subtask fresh reused) refl (with_ack_is s a) none in
    grind (arith, common_steps, free, outbox_acked (completed q subtask fresh reused) s a refl refl refl)

-- a late one
pub late_is_sound : (m : State) (subtask : SubtaskId) (fresh reused : List ℕ) → IsSound m → AreDistinct (fresh ++ reused) → IsSound (ack m None subtask fresh reused).0
unfolding ack
late_is_sound m subtask fresh reused s once =
    let unknown : List ℕ = filter (λ f. not (is_known m f)) fresh in
    let o = outbox_of s in
    let not_known : (f : ℕ) → IsIn f unknown → (is_present (uses m.records) f ≡ false) × (in_outbox m f ≡ false) =
    λ f h. or_parts _ _ (not-true (is_known m f) (IsIn-from_filter (λ g. not (is_known m g)) f fresh h).1) in
    let out : (f : ℕ) → IsIn f unknown → IsIn f (m.waiting ++ m.taken) → ⊥ = λ f h k. both_ways (in_outbox m f) (not_known f h).1 (test-from_IsIn f (m.waiting ++ m.taken) k) in
    let front : AreDistinct (m.waiting ++ unknown) =
    AreDistinct-append m.waiting unknown (AreDistinct-left m.waiting m.taken o.apart) (AreDistinct-filter (λ f. not (is_known m f)) fresh (AreDistinct-left fresh reused once))
    (λ f w u. out f u (IsIn-append_left f m.waiting m.taken w)) in
    sound_from (record m { waiting = m.waiting ++ unknown }) (grind (arith, common_steps) steps 1000000) s.records (record {
      unused = λ f h. let cases = IsIn-append_cases f (m.waiting ++ unknown) m.taken h in
          let right = IsIn-append_right f m.waiting m.taken in
          grind (arith, common_steps, o.unused f, not_known f, IsIn-append_left f m.waiting m.taken, right, IsIn-append_cases f m.waiting unknown, cases);
      apart = AreDistinct-append (m.waiting ++ unknown) m.taken front (AreDistinct-right m.waiting m.taken o.apart)
          (λ f h t. grind (arith, common_steps, AreDistinct-apart m.waiting m.taken o.apart f, out f, IsIn-append_right f m.waiting m.taken, IsIn-append_cases f m.waiting unknown h));
    })
