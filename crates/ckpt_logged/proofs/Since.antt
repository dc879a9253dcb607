-- The acknowledgements of each record since any sound state: an opening, the state of an image, or one that calls led to.
use Rattle.ckpt_logged.proofs.Names.{◌≡◌, ℕ, ◌+◌, ◌<◌, ◌≤◌, eqb, List, [], ◌∷◌, ◌++◌, refl, sym, ap, ◌∙◌, inl, inr, ◌⊎◌, ⊎_elim, arith, Option, None, list_any, eq-eqb, ne_eqb, common_steps}
use Rattle.ckpt_logged.proofs.Names.{Acked, Call, Ack, SubtaskId, put_ack, ascending, one_if, IsIn, Record, same_subtask, list_any-none, find-none, State, record_of, replay, AreCalls}
use Rattle.ckpt_logged.proofs.Names.{accepted_by, along, IsSound, step, found, IsMoved, IsTriggered, moved_from, next_rises, taken_from, taken_id, times_of-in_order, step_keeps}
use Rattle.ckpt_logged.proofs.Names.{IsPassedOver, IsTakenBy, passed_moves, step_is, OneOfEach, acks_in, put_all}

-- what a record is after a call

-- a record that was there, with the acknowledgement that the call adds, if it adds one
record Came (m : State) (call : Call) (y : Record) : Type 0 where
  before : Record
  there : IsIn before m.records
  same : y.id ≡ before.id
  acks : y.acks ≡ put_all before.acks (accepted_by y.id m call)

-- or one that the call triggers
abbrev Comes : State → Call → Record → Type 0
Comes m call y = Came m call y ⊎ (IsTriggered m y × (accepted_by y.id m call ≡ []))

-- after a call that adds none
moved_comes : (m : State) (call : Call) {d : Option ℕ} {after : List Record} (y : Record) → accepted_by y.id m call ≡ [] → IsMoved m d after → IsIn y after → Comes m call y
moved_comes m call y none i h =
    ⊎_elim
    (λ (k : IsIn y m.records). inl (record { before = y; there = k; same = refl; acks = sym (ap (put_all y.acks) none) }))
    (λ (k : IsTriggered m y). inr (k, none))
    (moved_from i y h)

-- after one that a pending record takes
taken_comes : (m : State) (now id : ℕ) (subtask : SubtaskId) (fresh reused : List ℕ) (y : Record) → IsTakenBy m id subtask fresh reused (step m (Ack now id subtask fresh reused))
    → IsIn y (step m (Ack now id subtask fresh reused)).0.records → Comes m (Ack now id subtask fresh reused) y
taken_comes m now id subtask fresh reused y i h =
    let call : Call = Ack now id subtask fresh reused in
    let its : Acked = record { subtask = subtask; files = ascending (fresh ++ reused) } in
    let q : Record = i.q in
    let there : IsIn q m.records = (i.acking).there in
    ⊎_elim
    (λ (e : y ≡ (i.taken).new).
    let number : y.id ≡ q.id = ap (λ (r : Record). r.id) e ∙ taken_id i.taken there in
    let adds : accepted_by q.id m call ≡ its ∷ [] = grind (arith, common_steps, i.its_id, i.is_taken, eq-eqb) in
    let added : accepted_by y.id m call ≡ its ∷ [] = ap (λ n. accepted_by n m call) number ∙ adds in
    inl (record {
      before = q;
      there = there;
      same = number;
      acks = ap (λ (r : Record). r.acks) e ∙ (i.taken).acks ∙ sym (ap (put_all q.acks) added);
    }))
    (λ (k : (y.id ≡ q.id → ⊥) × IsIn y m.records).
    let other : id ≡ y.id → ⊥ = λ e. k.0 (sym (i.its_id ∙ e)) in
    let none : accepted_by y.id m call ≡ [] = grind (arith, common_steps, ne_eqb id y.id other) in
    inl (record { before = y; there = k.1; same = refl; acks = sym (ap (put_all y.acks) none) }))
    (taken_from i.taken y h)

-- an acknowledgement that is passed over adds none
passed_adds_none : (m : State) (now id number : ℕ) (subtask : SubtaskId) (fresh reused : List ℕ) → IsPassedOver m (step m (Ack now id subtask fresh reused))
    → accepted_by number m (Ack now id subtask fresh reused) ≡ []
passed_adds_none m now id number subtask fresh reused i = grind (arith, common_steps, i.not_taken)

-- each call
comes : (m : State) (call : Call) (y : Record) → IsSound m → IsIn y (step m call).0.records → Comes m call y
comes m (Ack now id subtask fresh reused) y s h =
    ⊎_elim
    (λ (i : IsPassedOver m (step m (Ack now id subtask fresh reused))).
    moved_comes m (Ack now id subtask fresh reused) y (passed_adds_none m now id y.id subtask fresh reused i) (passed_moves i) h)
    (λ (i : IsTakenBy m id subtask fresh reused (step m (Ack now id subtask fresh reused))). taken_comes m now id subtask fresh reused y i h)
    ((step_is m (Ack now id subtask fresh reused)).records s)
comes m call y s h = moved_comes m call y refl ((step_is m call).records s) h

-- no call adds one to a record that was not triggered yet
pub adds_none : (m : State) (call : Call) (number : ℕ) → IsSound m → m.next ≤ number → accepted_by number m call ≡ []
adds_none m (Ack now id subtask fresh reused) number s above =
    ⊎_elim
    (λ (i : IsPassedOver m (step m (Ack now id subtask fresh reused))). passed_adds_none m now id number subtask fresh reused i)
    (λ (i : IsTakenBy m id subtask fresh reused (step m (Ack now id subtask fresh reused))).
    let below : (i.q).id < m.next = s.records.below_next i.q (i.acking).there in
    let other : id ≡ number → ⊥ = λ e. absurd (omega (arith, below, above, i.its_id, e)) in
    grind (arith, common_steps, ne_eqb id number other))
    ((step_is m (Ack now id subtask fresh reused)).records s)
adds_none m call number s above = refl

-- acknowledgements

-- the live records have these, and of later numbers there are none
record Have (m : State) (had : ℕ → List Acked) : Type 0 where
  live : (r : Record) → IsIn r m.records → r.acks ≡ had r.id
  later : (id : ℕ) → m.next ≤ id → had id ≡ []

abbrev and_then : (ℕ → List Acked) → State → Call → ℕ → List Acked
and_then had m call id = put_all (had id) (accepted_by id m call)

step_has : (m : State) (call : Call) (had : ℕ → List Acked) → IsSound m → Have m had → Have (step m call).0 (and_then had m call)
step_has m call had s a = record {
  live = λ y h. ⊎_elim
      (λ (k : Came m call y). k.acks ∙ ap (λ xs. put_all xs (accepted_by y.id m call)) (a.live k.before k.there ∙ ap had (sym k.same)))
      (λ (k : IsTriggered m y × (accepted_by y.id m call ≡ [])).
      (k.0).acks ∙ sym (ap (put_all (had y.id)) k.1 ∙ a.later y.id (omega (arith, (k.0).id))))
      (comes m call y s h);
  later = λ id above.
      let before : m.next ≤ id = omega (arith, above, next_rises m call) in
      ap (put_all (had id)) (adds_none m call id s before) ∙ a.later id before;
}

put_all-append : (acks xs ys : List Acked) → put_all acks (xs ++ ys) ≡ put_all (put_all acks xs) ys
put_all-append acks [] ys = refl
put_all-append acks (x ∷ xs) ys = put_all-append (put_ack x acks) xs ys

had_along : (m : State) (calls : List Call) (had : ℕ → List Acked) → IsSound m → AreCalls calls → Have m had → (r : Record) → IsIn r (replay m calls).records
    → r.acks ≡ put_all (had r.id) (along (accepted_by r.id) m calls)
had_along m [] had s c a r h = a.live r h
had_along m (call ∷ calls) had s c a r h =
    had_along (step m call).0 calls (and_then had m call) (step_keeps m call c.0 s) c.1 (step_has m call had s a) r h
    ∙ sym (put_all-append (had r.id) (accepted_by r.id m call) (along (accepted_by r.id) (step m call).0 calls))

-- of a number that was not given yet there is no record
pub none_yet : (m : State) (id : ℕ) → IsSound m → m.next ≤ id → record_of m id ≡ None
none_yet m id s above = find-none (λ (r : Record). eqb r.id id) m.records (list_any-none (λ (r : Record). eqb r.id id) m.records (λ r h.
    let other : r.id ≡ id → ⊥ = λ e. absurd (omega (arith, s.records.below_next r h, above, e)) in ne_eqb r.id id other))

pub acknowledged : (m : State) (calls : List Call) → IsSound m → AreCalls calls → (r : Record) → IsIn r (replay m calls).records
    → r.acks ≡ put_all (acks_in (record_of m r.id)) (along (accepted_by r.id) m calls)
acknowledged m calls s c =
    had_along m calls (λ id. acks_in (record_of m id)) s c (record {
      live = λ r h. sym (ap acks_in (found m r s.records.in_order h));
      later = λ id above. ap acks_in (none_yet m id s above);
    })

-- a done record has one of each subtask

pub one_of_each : (m : State) → IsSound m → OneOfEach m
one_of_each m sound r there done s =
    let its = sound.records.each r there in
    times_of-in_order s r.acks its.acks_in_order ∙ ap (λ ss. one_if (list_any (same_subtask s) ss)) (its.full done)
