-- What an accepted acknowledgement of a pending record makes of the parts.
use Rattle.ckpt_core.proofs.Acknowledging.{Moves.ack_groups, Moves.ack_uses, Moves.no_pin-holds, Moves.with_instead, Moves.id-with_instead, Moves.replaced_members, Takes.found_record}
use Rattle.ckpt_core.proofs.Ending.{Drops.apart_in, HandOut.present-from_use}
use Rattle.ckpt_core.proofs.Names.{AreTied, IsAccepted, Stays, records_in, state_of, present_in, acked, refusal, IsSound, id_before, State, Stepped, ack, acknowledged_in, completed_with, replaced}
use Rattle.ckpt_core.proofs.Names.{both_ways, eqb-true, length-map, Call, Ack, Done, SubtaskId, ascending, IsIn, IsInOrder, in_order_once, Record, Use, Subtask, is_present, missing, use_before, uses}
use Rattle.ckpt_core.proofs.Names.{step, with_records, accepted_ack, ack_step, IsAcknowledged, IsIn-from_find, map_same, same_record, IsAcking, with_ack, with_ack_is, acking, taken_in, common_steps}
use Rattle.ckpt_core.proofs.Names.{uses_in_order, IsPending, missing-with_ack, triples, IsStored, Parts, IsMissing, with_pins, grouped, records_of, may_want_memory, answer_wants, Answers, AreSound}
use Rattle.ckpt_core.proofs.Names.{uses_of, acknowledged, IsIn-append_cases, IsIn-append_left, IsIn-map, IsIn-in_order, IsIn-from_in_order, IsInOrder-map, IsIn-in_order_once, IsIn-from_in_order_once}
use Rattle.ckpt_core.proofs.Names.{◌≡◌, ℕ, ◌+◌, ◌-◌, ◌≤◌, ◌<◌, max, Bool, true, false, cond, ltb, eqb, List, ◌++◌, map, length, refl, sym, ap, subst, ◌∙◌, ⊎_elim, arith, Some, find, cases_Bool}
use Rattle.ckpt_core.proofs.Using.Order.{from_holds, all_uses_in_order, record_in_order, record_uses_in_order, uses-in_order}
use Rattle.ckpt_core.proofs.{Acknowledging.Uses.present_more, Records.Grouped.apart_between, Records.Lookups.has_number, Records.Pending.find-from_IsIn}
use Rattle.ckpt_ids.specs.declared.reply.Reply.TheVariants as reply

-- the parts with other room
abbrev pub roomy : Parts → ℕ → ℕ → Parts
roomy p spare places = record p { outbox = record p.outbox { spare = spare }; store = record p.store { spare = places } }

pub record IsRoomier (p q : Parts) : Type 0 where
  pub spare : ℕ
  pub places : ℕ
  pub is : q ≡ roomy p spare places
  pub room : present_in p.registry ≤ spare

pub made_room : (p q : Parts) (more : ℕ) → q ≡ record p { outbox = record p.outbox { spare = max (present_in p.registry + more) p.outbox.spare } } → IsRoomier p q
made_room p q more e = record { spare = max (present_in p.registry + more) p.outbox.spare; places = p.store.spare; is = e; room = omega arith }

pub room_made : (p q : Parts) (more : ℕ) → q ≡ record p { outbox = record p.outbox { spare = max (present_in p.registry + more) p.outbox.spare } } → present_in q.registry + more ≤ q.outbox.spare
room_made p q more e = omega (arith, ap (λ x. present_in x.registry) e, ap (λ x. x.outbox.spare) e)

roomy_state : (p : Parts) (spare places : ℕ) → state_of (roomy p spare places) ≡ state_of p
unfolding state_of
roomy_state p spare places = refl

pub roomier_state : {p q : Parts} → IsRoomier p q → state_of q ≡ state_of p
roomier_state {p} {q} r = ap state_of r.is ∙ roomy_state p r.spare r.places

pub roomier_sound : {p q : Parts} → IsRoomier p q → AreSound p → AreSound q
roomier_sound {p} {q} r sound = grind (arith, common_steps, roomy_state)

pub roomier_stays : {p q : Parts} → IsRoomier p q → AreSound p → Stays p q
roomier_stays {p} {q} r sound = let s : AreSound q = roomier_sound r sound in record { state_is = roomier_state r; tied = s.tied; none_ended = s.none_ended }

-- what is known of it
pub record IsTaking (p : Parts) (now id : ℕ) (s : SubtaskId) (fresh reused : List ℕ) (r : Record) : Type 0 where
  pub sound : AreSound p
  pub accepted : IsAccepted p (Ack now id s fresh reused)
  pub pending : (q : Record) → IsIn q p.pending → IsPending q
  pub in_order : IsInOrder id_before p.pending
  pub stored : IsStored p.store
  pub found : find (has_number id) p.pending ≡ Some r

-- if room was made first
pub roomier_accepted : {p q : Parts} (now id : ℕ) (s : SubtaskId) (fresh reused : List ℕ) → IsRoomier p q → IsAccepted p (Ack now id s fresh reused) → IsAccepted q (Ack now id s fresh reused)
roomier_accepted {p} {q} now id s fresh reused r accepted = ap (λ m. refusal m (Ack now id s fresh reused)) (roomier_state r) ∙ accepted

pub taking_from : {p q : Parts} {id n : ℕ} (now : ℕ) (s : SubtaskId) (fresh reused : List ℕ) → IsRoomier p q → AreSound p → IsAccepted p (Ack now id s fresh reused) →
    ((x : Record) → IsIn x q.pending → IsPending x) → IsInOrder id_before q.pending → IsStored q.store → (w : IsMissing p.pending id n) → IsTaking q now id s fresh reused w.lacking
taking_from {p} {q} {id} {n} now s fresh reused r sound accepted pending order stored w = record {
  sound = roomier_sound r sound;
  accepted = roomier_accepted now id s fresh reused r accepted;
  pending = pending;
  in_order = order;
  stored = stored;
  found = ap (λ x. find (has_number id) x.pending) r.is ∙ w.found;
}

pub acked_replaced : (id : ℕ) (s : SubtaskId) (files : List ℕ) (r : Record) (rs : List Record) → IsInOrder id_before rs → find (has_number id) rs ≡ Some r →
    acked id s files rs ≡ replaced rs (acknowledged r s files)
acked_replaced id s files r rs order found =
    let a : Record = acknowledged r s files in
    let its : r.id ≡ id = eqb-true r.id id (IsIn-from_find (has_number id) r rs found).1 in
    map_same (λ q. cond (has_number id q) (acknowledged q s files) q) (with_instead a) rs (λ q h.
    let Goal : Type 0 = cond (has_number id q) (acknowledged q s files) q ≡ with_instead a q in
    ⊎_elim
    (λ (e : has_number id q ≡ true).
    let both : Some q ≡ Some r = sym (find-from_IsIn id q rs order h e) ∙ found in
    let same : q ≡ r = cc in
    ap (λ b. cond b (acknowledged q s files) q) e ∙ ap (λ x. acknowledged x s files) same ∙ sym (ap (λ b. cond b a q) (ap (eqb q.id) its ∙ e)))
    (λ (e : has_number id q ≡ false). ap (λ b. cond b (acknowledged q s files) q) e ∙ sym (ap (λ b. cond b a q) (ap (eqb q.id) its ∙ e)))
    (cases_Bool (has_number id q)))

pub registry_in_order : (p : Parts) → AreSound p → IsInOrder use_before p.registry
unfolding state_of
registry_in_order p sound = rw sound.tied.uses_are (uses-in_order (records_in p) sound.sound.records.in_order sound.sound.records.each)

pub replaced_in_order : (rs : List Record) (a : Record) → IsInOrder id_before rs → IsInOrder id_before (replaced rs a)
replaced_in_order rs a order =
    IsInOrder-map id_before id_before (with_instead a) rs (λ x y h. ap (λ i. ltb i (with_instead a y).id) (id-with_instead a x) ∙ ap (ltb x.id) (id-with_instead a y) ∙ h) order

taken_new : (us : List Use) (id : ℕ) (s : SubtaskId) (fresh reused : List ℕ) → ((f : ℕ) → IsIn f reused → is_present us f ≡ true) → (u : Use) →
    IsIn u (in_order_once use_before (us ++ triples id (Subtask s) (fresh ++ reused))) → is_present us u.file ≡ false → IsIn u.file fresh
taken_new us id s fresh reused present u h absent =
    let added : List Use = triples id (Subtask s) (fresh ++ reused) in
    ⊎_elim
    (λ (k : IsIn u us). absurd (both_ways (is_present us u.file) absent (present-from_use u us k)))
    (λ (k : IsIn u added).
    ⊎_elim (λ f. f) (λ f. absurd (both_ways (is_present us u.file) absent (present u.file f))) (IsIn-append_cases u.file fresh reused (from_holds id (Subtask s) (fresh ++ reused) u k).2))
    (IsIn-append_cases u us added (IsIn-from_in_order_once use_before u (us ++ added) h))

-- the state before it, at its moment
abbrev pub moved : Parts → ℕ → State
moved p now = record (state_of p) { latest = max now p.clock.latest }

still_waiting : (m : State) (a : Record) → (missing a ≡ 0 → ⊥) → acknowledged_in m a ≡ (with_records m (replaced m.records a), Done (reply.AckPending (missing a)))
unfolding acknowledged_in
still_waiting m a some = grind (arith, common_steps)

pub now_complete : (m : State) (a : Record) → missing a ≡ 0 → acknowledged_in m a ≡ completed_with (with_records m (replaced m.records (record a { done = true }))) (record a { done = true })
unfolding acknowledged_in
now_complete m a none = grind (arith, common_steps)

module _ {p : Parts} {now id : ℕ} {s : SubtaskId} {fresh reused : List ℕ} {r : Record} (t : IsTaking p now id s fresh reused r) where
  pub its_number : r.id ≡ id
  its_number = eqb-true r.id id (IsIn-from_find (has_number id) r p.pending t.found).1

  pub taking : IsAcking (state_of p) (with_pins p.registry r) s fresh reused
  taking = acking (state_of p) now id s fresh reused (with_pins p.registry r) (accepted_ack (state_of p) now id s fresh reused t.accepted)
      (found_record p id r t.sound.sound t.pending t.stored t.found)

  -- the records after it
  pub taken_records : records_in (taken_in p now id s fresh reused) ≡ replaced (records_in p) (with_ack (with_pins p.registry r) s fresh reused)
  taken_records =
      let added : List Use = triples id (Subtask s) (fresh ++ reused) in
      let files : List ℕ = ascending (fresh ++ reused) in
      ap (λ rs. records_of (in_order_once use_before (p.registry ++ added)) rs p.store.checkpoints p.store.savepoints) (acked_replaced id s files r p.pending t.in_order t.found)
      ∙ ack_groups p.registry added p.pending p.store.checkpoints p.store.savepoints (acknowledged r s files) (registry_in_order p t.sound) (no_pin-holds id s (fresh ++ reused))
      (λ q h e. apart_between (map (with_pins p.registry) p.pending) (p.store.checkpoints ++ p.store.savepoints) (apart_in p t.sound.sound) (with_pins p.registry r) q
      (IsIn-map (with_pins p.registry) r p.pending (IsIn-from_find (has_number id) r p.pending t.found).0) h (sym e))

  -- their uses
  pub taken_uses : (taken_in p now id s fresh reused).registry ≡ uses (replaced (records_in p) (with_ack (with_pins p.registry r) s fresh reused))
  unfolding state_of
  taken_uses =
      let rs : List Record = records_in p in
      let q : Record = with_pins p.registry r in
      let a : Record = with_ack q s fresh reused in
      let k : IsAcking (state_of p) q s fresh reused = taking in
      let is : IsAcknowledged a = with_ack_is t.sound.sound k in
      let own : IsInOrder use_before (uses_of a) = record_uses_in_order a is.acks_in_order is.files (t.sound.sound.records.each q k.there).pins in
      let each : (x : Record) → IsIn x (replaced rs a) → IsInOrder use_before (uses_of x) = λ x h.
      ⊎_elim (λ (e : x ≡ a). rw e own) (λ (o : IsIn x rs × (x.id ≡ a.id → ⊥)). record_in_order x (t.sound.sound.records.each x o.0)) (replaced_members rs a x h) in
      ap (λ us. in_order_once use_before (us ++ triples id (Subtask s) (fresh ++ reused))) t.sound.tied.uses_are
      ∙ ap (λ i. in_order_once use_before (uses rs ++ triples i (Subtask s) (fresh ++ reused))) (sym its_number)
      ∙ ack_uses rs q s (fresh ++ reused) (ascending (fresh ++ reused)) k.there (λ x h e. same_record x q rs t.sound.sound.records.in_order h k.there e)
      (λ f h. IsIn-in_order ltb f (fresh ++ reused) h) (λ f h. IsIn-from_in_order ltb f (fresh ++ reused) h)
      (all_uses_in_order (replaced rs a) (replaced_in_order rs a t.sound.sound.records.in_order) each)

  pub taken_present : present_in (taken_in p now id s fresh reused).registry ≤ present_in p.registry + length fresh
  unfolding state_of
  taken_present =
      let added : List Use = triples id (Subtask s) (fresh ++ reused) in
      present_more p.registry (taken_in p now id s fresh reused).registry fresh (λ u h. IsIn-in_order_once uses_in_order u (p.registry ++ added) (IsIn-append_left u p.registry added h))
      (taken_new p.registry id s fresh reused (λ f h. ap (λ us. is_present us f) t.sound.tied.uses_are ∙ taking.present f h))

  pub taken_tied : present_in p.registry + length fresh ≤ p.outbox.spare → AreTied (taken_in p now id s fresh reused)
  taken_tied room = grind (arith, common_steps, length-map, taken_present, taken_records, taken_uses, with_ack, with_instead)

  -- the state after it
  pub taken_state : state_of (taken_in p now id s fresh reused) ≡ with_records (moved p now) (replaced (records_in p) (with_ack (with_pins p.registry r) s fresh reused))
  unfolding state_of
  taken_state = ap (λ rs. with_records (moved p now) rs) taken_records

  -- how many acknowledgements it lacks then
  pub one_less : missing (with_ack (with_pins p.registry r) s fresh reused) + 1 ≡ missing r
  one_less = missing-with_ack (with_pins p.registry r) s (ascending (fresh ++ reused)) taking.of_subtask taking.first

  pub taken_step : step (state_of p) (Ack now id s fresh reused) ≡ acknowledged_in (moved p now) (with_ack (with_pins p.registry r) s fresh reused)
  unfolding state_of ack
  taken_step = grind (arith, common_steps, ack_step, found_record)

  waiting_step : (n : ℕ) → missing r ≡ n → 1 < n → step (state_of p) (Ack now id s fresh reused) ≡ (state_of (taken_in p now id s fresh reused), Done (reply.AckPending (n - 1)))
  unfolding state_of
  waiting_step n lacking others =
      let m : State = moved p now in
      let a : Record = with_ack (with_pins p.registry r) s fresh reused in
      let less : missing a + 1 ≡ missing r = one_less in
      let some : missing a ≡ 0 → ⊥ = λ e. omega arith in
      let count : missing a ≡ n - 1 = omega arith in
      taken_step ∙ still_waiting m a some ∙ ap (λ k. ((with_records m (replaced m.records a)), Done (reply.AckPending k))) count ∙ ap (λ x. (x, Done (reply.AckPending (n - 1)))) (sym taken_state)

  -- memory may be wanted for it
  pub acked_wants : may_want_memory (state_of p) (Ack now id s fresh reused) ≡ true
  unfolding acknowledged_in completed_with
  acked_wants =
      let call : Call = Ack now id s fresh reused in
      let m : State = moved p now in
      let a : Record = with_ack (with_pins p.registry r) s fresh reused in
      let done : Record = record a { done = true } in
      let P : Bool → Type 0 = λ b.
      answer_wants call (cond b (completed_with (with_records m (replaced m.records done)) done) (with_records m (replaced m.records a), Done (reply.AckPending (missing a)))).1 ≡ true in
      ap (λ (x : Stepped). answer_wants call x.1) taken_step ∙ ⊎_elim (λ e. subst P (sym e) refl) (λ e. subst P (sym e) refl) (cases_Bool (eqb (missing a) 0))

pub waiting_answers : {p q : Parts} {now id : ℕ} {s : SubtaskId} {fresh reused : List ℕ} {r : Record} (new : Parts) (n : ℕ) → IsRoomier p q → IsTaking q now id s fresh reused r →
    present_in q.registry + length fresh ≤ q.outbox.spare → missing r ≡ n → 1 < n → new ≡ taken_in q now id s fresh reused → Answers p new (Ack now id s fresh reused) (reply.AckPending (n - 1))
waiting_answers {p} {q} {now} {id} {s} {fresh} {reused} {r} new n roomier t room lacking others is =
    rw is (record {
      step_is = ap (λ m. step m (Ack now id s fresh reused)) (sym (roomier_state roomier)) ∙ waiting_step t n lacking others;
      tied = taken_tied t room;
      none_ended = t.sound.none_ended;
    })

-- it waits for a subtask
pub it_lacks : (p : Parts) (id : ℕ) (r : Record) → IsSound (state_of p) → find (has_number id) p.pending ≡ Some r → ((r : Record) → IsIn r p.pending → IsPending r) → 0 < missing r
unfolding state_of
it_lacks p id r sound e pending =
    let there = (IsIn-from_find (has_number id) r p.pending e).0 in
    let q : Record = with_pins p.registry r in
    let all : List Record = grouped p.registry p.pending p.store.checkpoints p.store.savepoints in
    (sound.records.each q (IsIn-in_order id_before q all (IsIn-append_left q (map (with_pins p.registry) p.pending) (p.store.checkpoints ++ p.store.savepoints)
    (IsIn-map (with_pins p.registry) r p.pending there)))).pending (pending r there).not_done
