-- Calls that are not tested before they are made: reports on files, and disposals. The outbox or the store finds their refusals.
use Rattle.ckpt_core.proofs.Names.{◌≡◌, ℕ, Bool, true, false, not, eqb, [], ◌∷◌, refl, ap, ◌∙◌, Option, Some, None, Result, Ok, Err, if◌then◌else◌, IfErr, list_any, Call, Deleted, Dispose, Undeleted}
use Rattle.ckpt_core.proofs.Names.{Reply, Done, Refusal, InUse, NoSuchSavepoint, NotTaken, CoreFault, Memory, Refused, first_some, is_done_savepoint, is_number, refuse_if, refusal, State, step}
use Rattle.ckpt_core.proofs.Names.{step_refused, common_steps, arith}

-- the rows of a report

-- the row on the file alone
abbrev taken_row : Bool → Option Refusal
taken_row taken = first_some (refuse_if (not taken) NotTaken ∷ None ∷ None ∷ None ∷ [])

pub refusal_deleted : (m : State) (file : ℕ) (taken : Bool) → list_any (λ f. eqb f file) m.taken ≡ taken → refusal m (Deleted file) ≡ (if taken then None else Some NotTaken)
unfolding refusal
refusal_deleted m file true e = ap taken_row e
refusal_deleted m file false e = ap taken_row e

-- both are refused alike
pub refusal_undeleted : (m : State) (file : ℕ) (taken : Bool) → list_any (λ f. eqb f file) m.taken ≡ taken → refusal m (Undeleted file) ≡ (if taken then None else Some NotTaken)
unfolding refusal
refusal_undeleted m file taken e = refusal_deleted m file taken e

-- the rows of a disposal

-- by whether it is a done savepoint, and whether it is the base
abbrev pub disposal_rows : Bool → Bool → Option Refusal
disposal_rows done in_use = first_some (refuse_if (not done) NoSuchSavepoint ∷ refuse_if in_use InUse ∷ None ∷ None ∷ None ∷ None ∷ None ∷ [])

pub refusal_dispose : (m : State) (id : ℕ) (done in_use : Bool) → is_done_savepoint m id ≡ done → is_number m.base id ≡ in_use → refusal m (Dispose id) ≡ disposal_rows done in_use
unfolding refusal
refusal_dispose m id done in_use e f = ap (λ b. disposal_rows b (is_number m.base id)) e ∙ ap (disposal_rows done) f

-- what is not false is true
pub taken_if : (taken : Bool) (P : Type 0) → (P → ⊥) → (taken ≡ false → P) → taken ≡ true
taken_if true P never h = refl
taken_if false P never h = absurd (never (h refl))

-- a call that is done was not refused
accepted_by : (m n : State) (call : Call) (reply : Reply) (o : Option Refusal) → refusal m call ≡ o → step m call ≡ (n, Done reply) → refusal m call ≡ None
accepted_by m n call reply None e h = e
accepted_by m n call reply (Some why) e h = grind (arith, common_steps, step_refused)

pub accepted_done : (m n : State) (call : Call) (reply : Reply) → step m call ≡ (n, Done reply) → refusal m call ≡ None
accepted_done m n call reply h = accepted_by m n call reply (refusal m call) refl h

-- a result names exactly the refusal of the call
abbrev pub NamesRefusal : Result Reply CoreFault → State → Call → Type 0
NamesRefusal result m call = (why : Refusal) → (result ≡ Err (Refused why) → refusal m call ≡ Some why) × (refusal m call ≡ Some why → result ≡ Err (Refused why))

-- of an accepted call it is an answer, or that memory ran out
pub names_none : (m : State) (call : Call) (result : Result Reply CoreFault) → IfErr result (λ fault. fault ≡ Memory) → refusal m call ≡ None → NamesRefusal result m call
names_none m call (Ok reply) memory accepted = λ why. ((λ h. absurd (cc)), (λ h. absurd (cc)))
names_none m call (Err fault) memory accepted = λ why. ((λ h. absurd (cc)), (λ h. absurd (cc)))

pub names_it : (m : State) (call : Call) (why : Refusal) → refusal m call ≡ Some why → NamesRefusal (Err (Refused why)) m call
names_it m call why is = λ other. ((λ h. cc), (λ h. cc))
