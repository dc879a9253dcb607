-- The acknowledgements of a live record are exactly the accepted ones of its number.
use Rattle.ckpt_model.proofs.Names.{◌≡◌, ℕ, ◌<◌, ◌≤◌, List, [], ◌∷◌, ◌++◌, refl, sym, ap, ◌∙◌, inl, inr, ⊎_elim, arith, Option, eq-eqb, ne_eqb, append-nil, append_assoc, SubtaskId, Acked, Call, Ack, IsIn}
use Rattle.ckpt_model.proofs.Names.{in_order, acknowledges_before, put_ack, ascending, Record, IsIn-in_order, State, Opening, opened, step, replay, IsSound, CanOpen, AreCalls, along, accepted_by}
use Rattle.ckpt_model.proofs.Names.{Acknowledgements, common_steps}
use Rattle.ckpt_model.proofs.Records.{new_subtask}
use Rattle.ckpt_model.proofs.Reordering.ExchangeLemmas.{acks_commute}
use Rattle.ckpt_model.proofs.Histories.Moves.{IsMoved, moved_from}
use Rattle.ckpt_model.proofs.Histories.Takings.{IsTaken, taken_from, taken_id}
use Rattle.ckpt_model.proofs.Stepping.Changes.{IsPassedOver, IsTakenBy, passed_moves}
use Rattle.ckpt_model.proofs.Stepping.Walk.{step_is}
use Rattle.ckpt_model.proofs.Histories.Numbers.{next_rises}
use Rattle.ckpt_model.proofs.Soundness.Calls.{step_keeps}
use Rattle.ckpt_model.proofs.Soundness.Histories.{opening_is_sound, replay_is_sound}

-- one more at the end of the accepted, of a new subtask, is one more in its place
in_order_push : (a : Acked) (xs : List Acked) → ((x : Acked) → IsIn x xs → x.subtask ≡ a.subtask → ⊥) → in_order acknowledges_before (xs ++ a ∷ []) ≡ put_ack a (in_order acknowledges_before xs)
in_order_push a [] new = refl
in_order_push a (x ∷ xs) new =
    ap (put_ack x) (in_order_push a xs (λ y h. new y (inr h))) ∙ acks_commute x a (in_order acknowledges_before xs) (new x (inl refl))

-- the accepted acknowledgements of each number so far
pub record AreAccepted (m : State) (so_far : ℕ → List Acked) : Type 0 where
  pub live : (r : Record) → IsIn r m.records → r.acks ≡ in_order acknowledges_before (so_far r.id)
  pub later : (id : ℕ) → m.next ≤ id → so_far id ≡ []

-- and those that one call more adds
abbrev and_then : (ℕ → List Acked) → State → Call → ℕ → List Acked
and_then so_far m call id = so_far id ++ accepted_by id m call

-- if none is added, they stay
as_before : (so_far : ℕ → List Acked) (id : ℕ) (m : State) (call : Call) → accepted_by id m call ≡ [] → so_far id ≡ and_then so_far m call id
as_before so_far id m call none = sym (ap (λ xs. so_far id ++ xs) none ∙ append-nil (so_far id))

-- a call that adds none
moved_accepted : (m : State) (call : Call) {d : Option ℕ} (so_far : ℕ → List Acked) → ((id : ℕ) → accepted_by id m call ≡ []) → IsMoved m d (step m call).0.records → AreAccepted m so_far
    → AreAccepted (step m call).0 (and_then so_far m call)
moved_accepted m call so_far none i a =
    let same : (id : ℕ) → so_far id ≡ and_then so_far m call id = λ id. as_before so_far id m call (none id) in
    let up = next_rises m call in
    record { live = λ r h. grind (arith, common_steps, a.live r, a.later r.id, same r.id, moved_from i r h) steps 1000000; later = λ id h. sym (same id) ∙ a.later id (omega arith) }

-- an acknowledgement that changes no record
passed_accepted : (m : State) (now id : ℕ) (subtask : SubtaskId) (fresh reused : List ℕ) (so_far : ℕ → List Acked) → IsPassedOver m (step m (Ack now id subtask fresh reused)) → AreAccepted m so_far
    → AreAccepted (step m (Ack now id subtask fresh reused)).0 (and_then so_far m (Ack now id subtask fresh reused))
passed_accepted m now id subtask fresh reused so_far i a = moved_accepted m (Ack now id subtask fresh reused) so_far (λ k. grind (arith, common_steps, i.not_taken)) (passed_moves i) a

-- an acknowledgement that is taken by a pending record
taken_accepted : (m : State) (now id : ℕ) (subtask : SubtaskId) (fresh reused : List ℕ) (so_far : ℕ → List Acked) → IsSound m
    → IsTakenBy m id subtask fresh reused (step m (Ack now id subtask fresh reused)) → AreAccepted m so_far
    → AreAccepted (step m (Ack now id subtask fresh reused)).0 (and_then so_far m (Ack now id subtask fresh reused))
taken_accepted m now id subtask fresh reused so_far s i a =
    let call : Call = Ack now id subtask fresh reused in
    let its : Acked = record { subtask = subtask; files = ascending (fresh ++ reused) } in
    let q : Record = i.q in
    let t : IsTaken m.records q its (step m call).0.records = i.taken in
    let there : IsIn q m.records = (i.acking).there in
    let passes : accepted_by q.id m call ≡ its ∷ [] = grind (arith, common_steps, i.its_id, i.is_taken, eq-eqb) in
    let other : (k : ℕ) → (k ≡ id → ⊥) → accepted_by k m call ≡ [] = λ k ne. grind (arith, common_steps, ne_eqb id k) in
    let is_new : (x : Acked) → IsIn x (so_far q.id) → x.subtask ≡ subtask → ⊥ = λ x h e.
    new_subtask q subtask x (i.acking).first (rw (a.live q there) (IsIn-in_order acknowledges_before x (so_far q.id) h)) (sym e) in
    let new_id : (t.new).id ≡ q.id = taken_id t there in
    let of_new : (t.new).acks ≡ in_order acknowledges_before (and_then so_far m call (t.new).id) =
    rw (new_id, passes) (t.acks ∙ ap (put_ack its) (a.live q there) ∙ sym (in_order_push its (so_far q.id) is_new)) in
    let up : m.next ≤ ((step m call).0).next = next_rises m call in
    let below : q.id < m.next = s.records.below_next q there in
    record {
      live = λ r h. grind (arith, common_steps, a.live, as_before so_far r.id m call, other r.id, taken_from t r) steps 1000000;
      later = λ k h. grind (arith, common_steps, as_before, other, a.later) steps 1000000;
    }

-- each call
step_accepts : (m : State) (call : Call) (so_far : ℕ → List Acked) → IsSound m → AreAccepted m so_far → AreAccepted (step m call).0 (and_then so_far m call)
step_accepts m (Ack now id subtask fresh reused) so_far s a =
    ⊎_elim (λ i. passed_accepted m now id subtask fresh reused so_far i a) (λ i. taken_accepted m now id subtask fresh reused so_far s i a) ((step_is m (Ack now id subtask fresh reused)).records s)
step_accepts m call so_far s a = grind (arith, common_steps, moved_accepted, step_is)

-- each list of calls
acks_along : (m : State) (calls : List Call) (so_far : ℕ → List Acked) → IsSound m → AreCalls calls → AreAccepted m so_far → (r : Record) → IsIn r (replay m calls).records
    → r.acks ≡ in_order acknowledges_before (so_far r.id ++ along (accepted_by r.id) m calls)
acks_along m [] so_far s c a r h = grind (arith, common_steps, a.live r h, append-nil)
acks_along m (call ∷ calls) so_far s c a r h = let rest = acks_along (step m call).0 calls (and_then so_far m call) (step_keeps m call c.0 s) c.1 (step_accepts m call so_far s a) r h in
    grind (arith, common_steps, rest, append_assoc)

-- the law
pub acknowledgements : (o : Opening) (calls : List Call) → CanOpen o → AreCalls calls → Acknowledgements o calls
acknowledgements o calls c a r h =
    let at_first : AreAccepted (opened o) (λ id. []) = record { live = λ r h. absurd h; later = λ id h. refl } in
    (acks_along (opened o) calls (λ id. []) (opening_is_sound o c) a at_first r h, ((replay_is_sound o calls c a).records.each r h).full)
