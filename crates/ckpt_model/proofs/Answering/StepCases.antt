-- A step is a refusal, or the effect of the call.
use Rattle.ckpt_model.proofs.Names.{◌≡◌, ℕ, max, Bool, true, false, List, refl, ap, Option, Some, None, both_ways, SubtaskId, Call, Ack, Show, Record, Refusal, Answer, Refused, State, refusal, moment_of}
use Rattle.ckpt_model.proofs.Names.{pending_of, Stepped, ack, effect, at_moment, unless_refused, step, common_steps, arith}

pub step_refused : (m : State) (call : Call) (why : Refusal) → refusal m call ≡ Some why → step m call ≡ (m, Refused why)
unfolding step
step_refused m call why e = ap (unless_refused m call) e

pub step_accepted : (m : State) (call : Call) → refusal m call ≡ None → step m call ≡ effect (at_moment m (moment_of call)) call
unfolding step
step_accepted m call e = ap (unless_refused m call) e

-- what holds of a refusal and of the effect holds of the step
pub step_by : (m : State) (call : Call) (P : Stepped → Type 0) → ((why : Refusal) → refusal m call ≡ Some why → P (m, Refused why))
    → (refusal m call ≡ None → P (effect (at_moment m (moment_of call)) call)) → P (step m call)
unfolding step
step_by m call P refused accepted = grind (arith, common_steps, accepted, refused)

-- a show leaves the state
pub show_stays : (m : State) (id : ℕ) → (step m (Show id)).0 ≡ m
unfolding effect
show_stays m id = step_by m (Show id) (λ x. x.0 ≡ m) (λ why _. refl) (λ _. refl)

-- a call is not refused if its answer passes a test that no refusal passes
pub not_refused-from_answer : (passes : Answer → Bool) → ((why : Refusal) → passes (Refused why) ≡ false) → (m : State) (call : Call) → passes (step m call).1 ≡ true → refusal m call ≡ None
not_refused-from_answer passes fails m call =
    step_by m call (λ x. passes x.1 ≡ true → refusal m call ≡ None) (λ why _ h. absurd (both_ways (passes (Refused why)) (fails why) h)) (λ accepted _. accepted)

-- what an accepted acknowledgement does
pub ack_step : (m : State) (now id : ℕ) (subtask : SubtaskId) (fresh reused : List ℕ) (o : Option Record) → refusal m (Ack now id subtask fresh reused) ≡ None → pending_of m.records id ≡ o →
    step m (Ack now id subtask fresh reused) ≡ ack (record m { latest = max now m.latest }) o subtask fresh reused
unfolding step effect
ack_step m now id subtask fresh reused o accepted found = grind (arith, common_steps)
