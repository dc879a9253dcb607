-- What an accepted acknowledgement of a pending record may rely on.
use Rattle.ckpt_core.proofs.Names.{AreSound, IsAccepted, records_in, state_of, acked, pending_of, IsSound, id_before, in_outbox, IsAcceptedAck, accepted_ack, new_subtask, IsIn-from_find, find_agree}
use Rattle.ckpt_core.proofs.Names.{Some, None, find, option_map, IsSome, eqb-true, or_parts, Ack, SubtaskId, IsIn, IsInOrder, LiesAt, Record, Use, Subtask, Pin, count, is_present, uses, uses_of}
use Rattle.ckpt_core.proofs.Names.{has_acknowledged, acknowledged, is_subtask, IsIn-append_cases, IsIn-from_flat_map, IsInOrder-map, IsPending, IsEachOnce, HasNoUse, IsStored, id_of, Parts, with_pins}
use Rattle.ckpt_core.proofs.Names.{same_record, IsAcking, acking, has_its_own, common_steps, uses_of_acks}
use Rattle.ckpt_core.proofs.Names.{triples, ◌≡◌, ℕ, zero, suc, ◌+◌, ◌-◌, ◌^◌, ◌<◌, ◌≤◌, true, false, cond, eqb, ltb, List, [], ◌∷◌, ◌++◌, length, refl, sym, ap, subst, ◌∙◌, ⊎_elim, arith, Option}
use Rattle.ckpt_core.proofs.{Ending.Drops.apart_in, Ending.Drops.groups_of, Records.Lookups.has_number, Records.Lookups.pending_of-groups, Records.Lookups.find-map}
use Rattle.ckpt_core.proofs.{Triggering.TriggerParts.live_records, Using.CountBound.count-records, Using.Order.from_holds, Using.Order.id_of_acks, Using.Order.use_of_record}

some_from : {X : Type 0} (o : Option X) → IsSome o → (x : X) × (o ≡ Some x)
some_from (Some x) h = (x, refl)
some_from None h = absurd (cc)

-- the record of this number, with its pins
pub found_record : (p : Parts) (id : ℕ) (r : Record) → IsSound (state_of p) → ((r : Record) → IsIn r p.pending → IsPending r) → IsStored p.store → find (has_number id) p.pending ≡ Some r
    → pending_of (state_of p).records id ≡ Some (with_pins p.registry r)
unfolding state_of
found_record p id r sound pending stored e =
    pending_of-groups id p.registry p.pending p.store.checkpoints p.store.savepoints (apart_in p sound) (groups_of p pending stored) ∙ ap (option_map (with_pins p.registry)) e

-- a subtask that has not acknowledged holds nothing
subtask_holder : (s t : SubtaskId) → Subtask s ≡ Subtask t → s ≡ t
subtask_holder s t e = cc

pin_is_no_subtask : (s : SubtaskId) → Pin ≡ Subtask s → ⊥
pin_is_no_subtask s e = cc

not_used : (q : Record) (s : SubtaskId) (u : Use) → has_acknowledged q s ≡ false → IsIn u (uses_of q) → u.holder ≡ Subtask s → ⊥
not_used q s u new h e =
    ⊎_elim (λ k. let a = id_of_acks q.id q.acks u k in new_subtask q s a.0 new a.1 (subtask_holder s a.0.subtask (sym e ∙ a.3))) (λ k. pin_is_no_subtask s (sym (from_holds q.id Pin q.pins u k).1 ∙ e))
    (IsIn-append_cases u (uses_of_acks q.id q.acks) (triples q.id Pin q.pins) h)

-- what is required to take it
pub record CanTake (p : Parts) (now id : ℕ) (subtask : SubtaskId) (fresh reused : List ℕ) : Type 0 where
  pub few : length fresh + length reused ≤ 4096
  pub moment : now < 2 ^ 62
  pub expected : (r : Record) → find (has_number id) p.pending ≡ Some r → (is_subtask r.shape subtask ≡ true) × (has_acknowledged r subtask ≡ false)
  pub fresh_absent : (f : ℕ) → IsIn f fresh → is_present p.registry f ≡ false
  pub reused_present : (f : ℕ) → IsIn f reused → is_present p.registry f ≡ true
  pub each_once : IsEachOnce (fresh ++ reused)
  pub below : (f : ℕ) → IsIn f reused → count p.registry f < 2 ^ 32 - 1
  pub unused : HasNoUse p.registry id (Subtask subtask)

no_use : (p : Parts) (q : Record) (id : ℕ) (s : SubtaskId) → AreSound p → IsIn q (state_of p).records → q.id ≡ id → has_acknowledged q s ≡ false → HasNoUse p.registry id (Subtask s)
unfolding state_of
no_use p q id s sound there its new u h same holder =
    let x = IsIn-from_flat_map uses_of u (records_in p) (rw sound.tied.uses_are at h) in
    not_used q s u new (rw (same_record x.0 q (records_in p) sound.sound.records.in_order x.1 there (sym (use_of_record x.0 u x.2) ∙ same ∙ sym its)) at x.2) holder

pub can_take : (p : Parts) (now id : ℕ) (subtask : SubtaskId) (fresh reused : List ℕ) → AreSound p → IsAccepted p (Ack now id subtask fresh reused) → ((r : Record) → IsIn r p.pending → IsPending r) →
    IsStored p.store → IsSome (find (has_number id) p.pending) → CanTake p now id subtask fresh reused
unfolding state_of
can_take p now id subtask fresh reused sound accepted pending stored there =
    let at = some_from _ there in
    let a : IsAcceptedAck (state_of p) now id subtask fresh reused = accepted_ack (state_of p) now id subtask fresh reused accepted in
    let q : Record = with_pins p.registry at.0 in
    let k : IsAcking (state_of p) q subtask fresh reused = acking (state_of p) now id subtask fresh reused q a (found_record p id at.0 sound.sound pending stored at.1) in
    let present : (f : ℕ) → is_present p.registry f ≡ is_present (uses (records_in p)) f = λ f. ap (λ us. is_present us f) sound.tied.uses_are in
    record {
      few = a.few;
      moment = a.moment;
      expected = λ s h.
          let g : pending_of (state_of p).records id ≡ Some (with_pins p.registry s) = found_record p id s sound.sound pending stored h in
          (a.of_subtask (with_pins p.registry s) g, a.first (with_pins p.registry s) g);
      fresh_absent = λ f h. present f ∙ (or_parts (is_present (uses (records_in p)) f) (in_outbox (state_of p) f) (k.unknown f h)).0;
      reused_present = λ f h. present f ∙ k.present f h;
      each_once = k.once;
      below = λ f h. omega (arith, ap (λ us. count us f) sound.tied.uses_are, live_records p sound.sound, count-records f (records_in p) sound.sound.records.each);
      unused = no_use p q id subtask sound k.there (eqb-true at.0.id id (IsIn-from_find (has_number id) at.0 p.pending at.1).1) k.first;
    }

-- the record after it
ack_id : (id : ℕ) (s : SubtaskId) (files : List ℕ) (r : Record) → (cond (has_number id r) (acknowledged r s files) r).id ≡ r.id
ack_id id s files r = grind (arith, common_steps)

pub found_acked : (id : ℕ) (s : SubtaskId) (files : List ℕ) (r : Record) (rs : List Record) → find (has_number id) rs ≡ Some r
    → find (has_number id) (acked id s files rs) ≡ Some (acknowledged r s files)
found_acked id s files r rs e =
    let ack : Record → Record = λ q. cond (has_number id q) (acknowledged q s files) q in
    find-map (has_number id) ack rs ∙ ap (option_map ack) (find_agree (λ q. has_number id (ack q)) (has_number id) rs (λ q h. ap (λ i. eqb i id) (ack_id id s files q)) ∙ e)
    ∙ ap (λ b. Some (cond b (acknowledged r s files) r)) (IsIn-from_find (has_number id) r rs e).1

-- it lies where it lay
pub lies_acked : (id : ℕ) (s : SubtaskId) (files : List ℕ) (rs : List Record) (place : ℕ) → LiesAt id_of id rs place → LiesAt id_of id (acked id s files rs) place
lies_acked id s files [] place h = let within : place < 0 = h.0 in absurd (omega arith)
lies_acked id s files (r ∷ rs) zero h = (omega arith, λ d. ack_id id s files r ∙ h.1 r)
lies_acked id s files (r ∷ rs) (suc place) h = grind (arith, common_steps, lies_acked id s files rs place)

pub lies_in_new : (id : ℕ) (s : SubtaskId) (files : List ℕ) (rs new : List Record) (place : ℕ) → LiesAt id_of id rs place → new ≡ acked id s files rs → LiesAt id_of id new place
lies_in_new id s files rs new place h is = subst (λ (qs : List Record). LiesAt id_of id qs place) (sym is) (lies_acked id s files rs place h)

pub acked_in_order : (id : ℕ) (s : SubtaskId) (files : List ℕ) (rs : List Record) → IsInOrder id_before rs → IsInOrder id_before (acked id s files rs)
acked_in_order id s files rs order =
    let ack : Record → Record = λ q. cond (has_number id q) (acknowledged q s files) q in
    IsInOrder-map id_before id_before ack rs (λ q r h. ap (λ k. ltb k (ack r).id) (ack_id id s files q) ∙ ap (ltb q.id) (ack_id id s files r) ∙ h) order

pub record IsFoundAcked (id : ℕ) (s : SubtaskId) (rs : List Record) : Type 0 where
  pub there : IsSome (find (has_number id) rs)
  pub acknowledged : (r : Record) → find (has_number id) rs ≡ Some r → has_acknowledged r s ≡ true

pub is_found_acked : (id : ℕ) (s : SubtaskId) (files : List ℕ) (rs new : List Record) → IsSome (find (has_number id) rs) → new ≡ acked id s files rs → IsFoundAcked id s new
is_found_acked id s files rs new there is =
    let at = some_from _ there in
    let found : find (has_number id) new ≡ Some (acknowledged at.0 s files) = ap (find (has_number id)) is ∙ found_acked id s files at.0 rs at.1 in
    record {
      there = rw found refl;
      acknowledged = λ q h. let same : acknowledged at.0 s files ≡ q = let both : Some (acknowledged at.0 s files) ≡ Some q = sym found ∙ h in cc in ap (λ x. has_acknowledged x s) (sym same)
          ∙ has_its_own at.0 s files;
    }
