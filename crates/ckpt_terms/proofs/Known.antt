-- Which files a step of the coordinator can make known: those that were known, and the fresh ones of an accepted acknowledgement.
use Rattle.ckpt_terms.proofs.Imports.{◌≡◌, ℕ, ◌+◌, ◌<◌, Bool, true, false, not, List, [], ◌++◌, refl, ap, ◌⊎◌, inl, inr, ⊎_elim, arith, filter, or_cases, or_left, or_right, cond_both, Call}
use Rattle.ckpt_terms.proofs.Imports.{Ack, Answer, Done, one_if, times, IsIn, uses, is_present, IsIn-from_times, times-from_IsIn, IsIn-from_filter, IsIn-from_test, test-from_IsIn, State}
use Rattle.ckpt_terms.proofs.Imports.{is_known, in_outbox, step, IsSound, registered_as, registered_by, handed_by, deleted_by, new_by, is_ack_taken, step_settled, fresh_of, is_accepted}
use Rattle.ckpt_ids.specs.declared.reply.Reply.TheVariants as reply

-- a file in the outbox is known, and so is a present one
pub known-from_outbox : (m : State) (f : ℕ) → IsIn f (m.waiting ++ m.taken) → is_known m f ≡ true
known-from_outbox m f h = or_right (is_present (uses m.records) f) (in_outbox m f) (test-from_IsIn f (m.waiting ++ m.taken) h)

pub known-from_present : (m : State) (f : ℕ) → is_present (uses m.records) f ≡ true → is_known m f ≡ true
known-from_present m f h = or_left (is_present (uses m.records) f) (in_outbox m f) h

-- by the balance of one file: what comes out went in
went_in : (p : Bool) (f : ℕ) (registered : List ℕ) (out : ℕ) → times f registered + one_if p ≡ out → 0 < out → (p ≡ true) ⊎ IsIn f registered
went_in true f registered out e h = inl refl
went_in false f registered out e h = let g : times f registered + 0 ≡ out = e in inr (IsIn-from_times f registered (omega arith))

-- a file that is present after was present before, or is registered
pub present_after : (m : State) (call : Call) (f : ℕ) → IsSound m → is_present (uses (step m call).0.records) f ≡ true → (is_present (uses m.records) f ≡ true) ⊎ IsIn f (registered_by m call)
present_after m call f s h =
    let one : one_if (is_present (uses (step m call).0.records) f) ≡ 1 = ap one_if h in
    went_in (is_present (uses m.records) f) f (registered_by m call) _ ((step_settled m call s).even f) (omega arith)

-- a file that is known after was known before, or is registered
pub known_after : (m : State) (call : Call) (f : ℕ) → IsSound m → is_known (step m call).0 f ≡ true → (is_known m f ≡ true) ⊎ IsIn f (registered_by m call)
known_after m call f s h =
    let n : State = (step m call).0 in
    let Goal : Type 0 = (is_known m f ≡ true) ⊎ IsIn f (registered_by m call) in
    let present : (is_present (uses m.records) f ≡ true) ⊎ IsIn f (registered_by m call) → Goal =
    ⊎_elim (λ (k : is_present (uses m.records) f ≡ true). inl (known-from_present m f k)) (λ (k : IsIn f (registered_by m call)). inr k) in
    let handed : IsIn f (handed_by m call) → Goal = λ (k : IsIn f (handed_by m call)).
    let some : 0 < times f (handed_by m call) = times-from_IsIn f (handed_by m call) k in
    present (went_in (is_present (uses m.records) f) f (registered_by m call) _ ((step_settled m call s).even f) (omega arith)) in
    ⊎_elim
    (λ (k : is_present (uses n.records) f ≡ true). present (present_after m call f s k))
    (λ (k : in_outbox n f ≡ true). ⊎_elim (λ (i : IsIn f (m.waiting ++ m.taken)). inl (known-from_outbox m f i)) handed ((step_settled m call s).comes f (IsIn-from_test f (n.waiting ++ n.taken) k)))
    (or_cases (is_present (uses n.records) f) (in_outbox n f) h)

-- what an answer registers are fresh files, and it accepts
registered_as_fresh : (a : Answer) (fresh unknown : List ℕ) (f : ℕ) → (IsIn f unknown → IsIn f fresh) → IsIn f (registered_as a fresh unknown) → IsIn f fresh × (is_accepted a ≡ true)
registered_as_fresh (Done (reply.AckPending missing)) fresh unknown f sub h = (h, refl)
registered_as_fresh (Done (reply.AckCompleted dropped out)) fresh unknown f sub h = (h, refl)
registered_as_fresh (Done (reply.AckLate handed)) fresh unknown f sub h = (sub h, refl)
registered_as_fresh a fresh unknown f sub h = absurd h

pub registered_fresh : (m : State) (call : Call) (f : ℕ) → IsIn f (registered_by m call) → IsIn f (fresh_of call) × (is_accepted (step m call).1 ≡ true)
registered_fresh m (Ack now id subtask fresh reused) f h =
    registered_as_fresh (step m (Ack now id subtask fresh reused)).1 fresh (filter (λ g. not (is_known m g)) fresh) f (λ k. (IsIn-from_filter (λ g. not (is_known m g)) f fresh k).0) h
registered_fresh m call f h = absurd h

-- what it reports as new are fresh files
pub new_fresh : (m : State) (call : Call) (f : ℕ) → IsIn f (new_by m call) → IsIn f (fresh_of call)
new_fresh m (Ack now id subtask fresh reused) f h =
    let In : List ℕ → Type 0 = λ xs. IsIn f xs → IsIn f fresh in
    cond_both (is_ack_taken (step m (Ack now id subtask fresh reused)).1) fresh [] In (λ _ k. k) (λ _ k. absurd k) h
new_fresh m call f h = absurd h

-- a deleted file was known before
pub deleted_known : (m : State) (call : Call) (f : ℕ) → IsSound m → IsIn f (deleted_by m call) → is_known m f ≡ true
deleted_known m call f s h = known-from_outbox m f ((step_settled m call s).were f h)
