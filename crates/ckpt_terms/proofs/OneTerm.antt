-- Each accepted acknowledgement of a pending record was made in the term of its trigger.
use Rattle.ckpt_terms.proofs.Imports.{◌≡◌, ℕ, ◌+◌, ◌<◌, true, false, not, ◌&&◌, eqb, List, [], ◌∷◌, refl, sym, ap, ◌∙◌, ⊎_elim, arith, Option, None, max, cases_Bool, both_ways, and_parts}
use Rattle.ckpt_terms.proofs.Imports.{and_from, not-true, not-false, not_from_false, eqb-true, cond_both, common_steps, Call, Restore, Cancel, Target, IsIn, Record, State, Stepped, cancel}
use Rattle.ckpt_terms.proofs.Imports.{cancelled, effect, restarted, restore, rolled_back, step, Part, ack_of, is_ack_taken, step_by, IsIn-from_changed, IsTriggered, next_rises, given_is_next}
use Rattle.ckpt_terms.proofs.Imports.{step_came, IsPassedOver, IsTakenBy, step_is, FencedCall, Reserve, Forfeit, Make, Advance, OldTerm, Fenced, FencedStepped, ends_the_term, fence}
use Rattle.ckpt_terms.proofs.Imports.{fenced_replay, fenced_step, is_accepted, is_of_task, made, restart, AreFencedCalls, IsFenced, IsFencedCall, OneTerm, given_in, is_taken_in}
use Rattle.ckpt_terms.proofs.{Fences.replay_fenced, Fences.step_fenced, Stepping.advance_by, Stepping.fenced_step_by, Stepping.none_else}
use Rattle.ckpt_ids.specs.declared.call.Target.TheVariants as target
use Rattle.ckpt_model.specs.State.{drop}

-- an accepted restore leaves nothing pending
restored_is_idle : (m : State) (t : Target) (shape : Option (List ℕ)) (y : Record) → IsIn y (restore m t shape).0.records → y.done ≡ true
unfolding restore restarted drop
restored_is_idle m target.Latest shape y h =
    let p = IsIn-from_changed (λ (r : Record). r) (λ r. not (rolled_back target.Latest r)) y m.records h in
    grind (arith, common_steps, p.2, p.3, not-true, not-false)
restored_is_idle m (target.Savepoint id) shape y h =
    let p = IsIn-from_changed (λ (r : Record). r) (λ r. not (rolled_back (target.Savepoint id) r)) y m.records h in
    grind (arith, common_steps, p.2, p.3, not-true, not-false)

-- nor does an accepted cancel
cancelled_is_idle : (m : State) (y : Record) → IsIn y (cancel m).0.records → y.done ≡ true
unfolding cancel drop
cancelled_is_idle m y h =
    let p = IsIn-from_changed (λ (r : Record). r) (λ r. not (cancelled m r)) y m.records h in
    grind (arith, common_steps, p.2, p.3, not-true, not-false)

-- so a call that ends the term leaves nothing pending
ended_is_idle : (m : State) (call : Call) (y : Record) → (is_accepted (step m call).1 && ends_the_term call) ≡ true → IsIn y (step m call).0.records → y.done ≡ true
unfolding effect
ended_is_idle m (Restore now t shape) y e h =
    step_by m (Restore now t shape) (λ (x : Stepped). (is_accepted x.1 && true) ≡ true → IsIn y x.0.records → y.done ≡ true) (λ why _ k there. absurd (both_ways false refl k))
    (λ _ k h. restored_is_idle (record m { latest = max now m.latest }) t shape y h) e h
ended_is_idle m (Cancel now) y e h =
    step_by m (Cancel now) (λ (x : Stepped). (is_accepted x.1 && true) ≡ true → IsIn y x.0.records → y.done ≡ true) (λ why _ k h. absurd (both_ways false refl k))
    (λ _ k h. cancelled_is_idle (record m { latest = max now m.latest }) y h) e h
ended_is_idle m call y e h = absurd (both_ways (ends_the_term call) refl (and_parts (is_accepted (step m call).1) (ends_the_term call) e).1)

-- a record of this number is pending only in this term
record IsOfTerm (m : Fenced) (number term : ℕ) : Type 0 where
  given : number < m.core.next
  pending : (y : Record) → IsIn y m.core.records → y.id ≡ number → y.done ≡ false → m.term ≡ term

-- and so after each call
make_of_term : (m : Fenced) (its : ℕ) (call : Call) (number term : ℕ) → IsFenced m → IsOfTerm m number term → IsOfTerm (made m (Make its call)).0 number term
make_of_term m its call number term i p =
    let s : Stepped = step m.core call in
    record {
      given = omega (arith, p.given, next_rises m.core call);
      pending = λ y h e waits.
          cond_both (is_accepted s.1 && ends_the_term call) (m.term + 1) m.term (λ (t : ℕ). t ≡ term)
          (λ ends. absurd (both_ways y.done waits (ended_is_idle m.core call y ends h)))
          (λ _. ⊎_elim (λ k. p.pending k.0 k.1 (sym k.3 ∙ e) k.2) (λ (k : IsTriggered m.core y). absurd (omega (arith, p.given, k.id))) (step_came m.core call i.core y h waits));
    }

made_of_term : (m : Fenced) (call : FencedCall) (number term : ℕ) → IsFenced m → IsOfTerm m number term → IsOfTerm (made m call).0 number term
made_of_term m (Reserve its count) number term i p = record { given = p.given; pending = p.pending }
made_of_term m (Forfeit its names) number term i p = record { given = p.given; pending = p.pending }
made_of_term m (Make its call) number term i p = make_of_term m its call number term i p
made_of_term m (Advance now its first) number term i p =
    let s : Stepped = step m.core (restart now) in
    advance_by m now its first (λ (n : Fenced). IsOfTerm n number term)
    (λ yes. record {
      given = omega (arith, p.given, next_rises m.core (restart now));
      pending = λ y h e waits. absurd (both_ways y.done waits (ended_is_idle m.core (restart now) y (ap (λ b. b && true) yes) h));
    })
    (λ _. make_of_term m 0 (restart now) number term i p)

step_of_term : (m : Fenced) (call : FencedCall) (number term : ℕ) → IsFenced m → IsOfTerm m number term → IsOfTerm (fenced_step m call).0 number term
step_of_term m call number term i p = fenced_step_by m call (λ (x : FencedStepped). IsOfTerm x.0 number term) (λ _. p) (λ _. made_of_term m call number term i p)

replay_of_term : (m : Fenced) (calls : List FencedCall) (number term : ℕ) → IsFenced m → AreFencedCalls calls → IsOfTerm m number term → IsOfTerm (fenced_replay m calls) number term
replay_of_term m [] number term i a p = p
replay_of_term m (call ∷ calls) number term i a p = replay_of_term (fenced_step m call).0 calls number term (step_fenced m call a.0 i) a.1 (step_of_term m call number term i p)

-- the trigger
trigger_of_term : (m : Fenced) (call : FencedCall) (number : ℕ) → IsFenced m → given_in (fenced_step m call).1 ≡ number ∷ [] → IsOfTerm (fenced_step m call).0 number m.term
trigger_of_term m call number i =
    fenced_step_by m call (λ (x : FencedStepped). given_in x.1 ≡ number ∷ [] → IsOfTerm x.0 number m.term) (λ why e. absurd (cc)) (λ _. by_call call)
  where
    by_make : (its : ℕ) (c : Call) → given_in (made m (Make its c)).1 ≡ number ∷ [] → IsOfTerm (made m (Make its c)).0 number m.term
    by_make its c e =
        let s : Stepped = step m.core c in
        let g = given_is_next m.core c number e in
        record {
          given = g.1;
          pending = λ y h k waits.
              cond_both (is_accepted s.1 && ends_the_term c) (m.term + 1) m.term (λ (t : ℕ). t ≡ m.term)
              (λ ends. absurd (both_ways y.done waits (ended_is_idle m.core c y ends h)))
              (λ _. refl);
        }

    by_call : (c : FencedCall) → given_in (made m c).1 ≡ number ∷ [] → IsOfTerm (made m c).0 number m.term
    by_call (Reserve its count) e = absurd (cc)
    by_call (Forfeit its names) e = absurd (cc)
    by_call (Make its c) e = by_make its c e
    by_call (Advance now its first) e =
        let g = given_is_next m.core (restart now) number e in
        advance_by m now its first (λ (n : Fenced). IsOfTerm n number m.term)
        (λ yes. record { given = g.1; pending = λ y h k waits. absurd (both_ways y.done waits (ended_is_idle m.core (restart now) y (ap (λ b. b && true) yes) h)) })
        (λ _. by_make 0 (restart now) e)

-- an acknowledgement that the layer lets through has the term that runs
let_through : (m : Fenced) (term : ℕ) (call : Call) → is_of_task call ≡ true → fence m (Make term call) ≡ None → term ≡ m.term
let_through m term call task e =
    let a = none_else (is_of_task call && not (eqb term m.term)) OldTerm _ e in
    ⊎_elim (λ (k : eqb term m.term ≡ true). eqb-true term m.term k)
    (λ (k : eqb term m.term ≡ false). absurd (both_ways (is_of_task call && not (eqb term m.term)) a.0 (and_from (is_of_task call) (not (eqb term m.term)) task (not_from_false (eqb term m.term) k))))
    (cases_Bool (eqb term m.term))

-- one that is accepted for a pending record has its term
taken_in_term : (n : Fenced) (number term its now : ℕ) (p : Part) → IsFenced n → IsOfTerm n number term → is_taken_in (fenced_step n (Make its (ack_of now number p))).1 ≡ true → its ≡ term
taken_in_term n number term its now p i o =
    let call : Call = ack_of now number p in
    fenced_step_by n (Make its call) (λ (x : FencedStepped). is_taken_in x.1 ≡ true → its ≡ term) (λ why e. absurd (both_ways false refl e))
    (λ through e.
    ⊎_elim
    (λ (k : IsPassedOver n.core (step n.core call)). absurd (both_ways (is_ack_taken (step n.core call).1) k.not_taken e))
    (λ (k : IsTakenBy n.core number p.subtask p.fresh p.reused (step n.core call)). let_through n its call refl through ∙ o.pending k.q (k.acking).there k.its_id (k.acking).pending)
    ((step_is n.core call).records i.core))

-- the law
pub one_term : (m : Fenced) (call : FencedCall) (calls : List FencedCall) → IsFenced m → IsFencedCall call → AreFencedCalls calls → OneTerm m call calls
one_term m call calls i c a id term now p given taken =
    let k : Fenced = (fenced_step m call).0 in
    let j : IsFenced k = step_fenced m call c i in
    taken_in_term (fenced_replay k calls) id m.term term now p (replay_fenced k calls a j) (replay_of_term k calls id m.term j a (trigger_of_term m call id i given)) taken
