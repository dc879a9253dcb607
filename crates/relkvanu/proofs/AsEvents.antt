-- A call that was made through a handle is one event, that of its line.
use Rattle.relkvanu.proofs.Imports.{◌≡◌, ℕ, Bool, true, false, ◌||◌, ltb, eqb, length, refl, sym, ap, ◌∙◌, Option, is_none, if◌then◌else◌, cond_both, Call, Tick, Savepoint, Ack, Decline}
use Rattle.relkvanu.proofs.Imports.{Dispose, Restore, Cancel, Take, Deleted, Undeleted, Show, Count, Trigger, Configure, State, Stepped, step, FencedCall, Reserve, Forfeit, Make, Advance}
use Rattle.relkvanu.proofs.Imports.{Machine, MakesStep, Issued, core_in, is_free, machine_of, machine_step, names_in, passes_on, Named, Plain, show_stays, Answer, Asked, files_in, call_step}
use Rattle.relkvanu.proofs.Imports.{term_step, IsEventOf, asked_event, asked_step, call_made, core_step, line_call_step, named_step, plain_step, answer_told, too_short}
use Rattle.ckpt_terms.specs.declared.machine.Machine.TheVariants as machine
use Rattle.ckpt_logged.proofs.Shows.{whole}
use Rattle.relkvanu.specs.declared.asked.Asked.TheVariants as ask

-- of two choices by one condition
both_if : {X Y : Type 0} (P : X → Y → Type 0) (b : Bool) (a c : X) (e f : Y) → (b ≡ true → P a e) → (b ≡ false → P c f) → P (if b then a else c) (if b then e else f)
both_if P true a c e f t u = t refl
both_if P false a c e f t u = u refl

-- a call that needs no term and ends none makes the coordinator's step, and the names stay
free_step : (k : Machine) (call : Call) → is_free call ≡ true → machine_of (step (core_in k) call).0 (names_in k) ≡ (machine_step k call).0
free_step k call free =
    let n : Machine = (machine_step k call).0 in
    let steps : MakesStep k n call (machine_step k call).1 = passes_on k call (ap (λ (b : Bool). b || is_none (names_in k)) free) in
    ap (λ (m : State). machine_of m (names_in k)) (sym steps.core) ∙ ap (λ (it : Option Issued). machine_of (core_in n) it) (sym steps.names) ∙ sym (whole n)

free_is : (k : Machine) (places : ℕ) (call : Call) → is_free call ≡ true → IsEventOf k (core_step k (call_made (core_in k) places call)) (Plain call)
unfolding call_made
free_is k places (Tick now) free code = free_step k (Tick now) free
free_is k places (Savepoint now) free code = free_step k (Savepoint now) free
free_is k places (Ack now id subtask fresh reused) free code = free_step k (Ack now id subtask fresh reused) free
free_is k places (Decline now id subtask) free code = free_step k (Decline now id subtask) free
free_is k places (Dispose id) free code = free_step k (Dispose id) free
free_is k places (Restore now target shape) free code = free_step k (Restore now target shape) free
free_is k places (Cancel now) free code = free_step k (Cancel now) free
free_is k places (Take most) free code =
    let s : Stepped = step (core_in k) (Take most) in
    cond_both (ltb places (length (files_in s.1))) (core_in k, too_short (length (files_in s.1))) (s.0, answer_told s.1)
    (λ (x : State × Answer). x.1.code ≡ 0 → machine_of x.0 (names_in k) ≡ (machine_step k (Take most)).0)
    (λ _ code. absurd cc)
    (λ _ code. free_step k (Take most) free)
    code
free_is k places (Deleted file) free code = free_step k (Deleted file) free
free_is k places (Undeleted file) free code = free_step k (Undeleted file) free
free_is k places (Show id) free code = ap (λ (m : State). machine_of m (names_in k)) (sym (show_stays (core_in k) id)) ∙ free_step k (Show id) free
free_is k places (Count file) free code = free_step k (Count file) free
free_is k places (Trigger now) free code = free_step k (Trigger now) free
free_is k places (Configure now config) free code = free_step k (Configure now config) free

plain_is : (k : Machine) (places : ℕ) (call : Call) → IsEventOf k (plain_step k places call) (Plain call)
plain_is k places call =
    cond_both (is_free call) (core_step k (call_made (core_in k) places call)) (call_step k call) (λ (x : Machine × Answer). IsEventOf k x (Plain call))
    (λ free. free_is k places call free)
    (λ _ code. refl)

term_is : (k : Machine) (call : FencedCall) → IsEventOf k (term_step k call) (Named call)
term_is (machine.Plain m) call code = absurd cc
term_is (machine.Fenced m) call code = refl

named_is : (k : Machine) (places term : ℕ) (call : Call) → IsEventOf k (named_step k places term call) (if is_free call then Plain call else Named (Make term call))
named_is (machine.Plain m) places term call code = absurd cc
named_is (machine.Fenced m) places term call code =
    both_if (IsEventOf (machine.Fenced m)) (is_free call) (plain_step (machine.Fenced m) places call) (term_step (machine.Fenced m) (Make term call)) (Plain call) (Named (Make term call))
    (λ _. plain_is (machine.Fenced m) places call)
    (λ _. term_is (machine.Fenced m) (Make term call))
    code

line_call_is : (k : Machine) (places : ℕ) (call : FencedCall) → IsEventOf k (line_call_step k places call) (asked_event (ask.Call call))
line_call_is k places (Make term call) =
    both_if (IsEventOf k) (eqb term 0) (plain_step k places call) (named_step k places term call) (Plain call) (if is_free call then Plain call else Named (Make term call))
    (λ _. plain_is k places call)
    (λ _. named_is k places term call)
line_call_is k places (Reserve term count) = term_is k (Reserve term count)
line_call_is k places (Forfeit term names) = term_is k (Forfeit term names)
line_call_is k places (Advance now term first) = term_is k (Advance now term first)

pub asked_is : (k : Machine) (places : ℕ) (asked : Asked) → IsEventOf k (asked_step k places asked) (asked_event asked)
asked_is k places (ask.Fence first) code = refl
asked_is k places (ask.Call call) code = line_call_is k places call code
