-- Only a cancel ends a job for good.
use Rattle.ckpt_terms.proofs.Imports.{◌≡◌, ℕ, ◌+◌, max, Bool, true, ◌&&◌, ltb, eqb, List, ◌++◌, refl, ◌⊎◌, inl, inr, count_by, Option, Some, None, false≢true, cond_both, SubtaskId, Call, Tick}
use Rattle.ckpt_terms.proofs.Imports.{Savepoint, Ack, Decline, Dispose, Restore, Cancel, Take, Deleted, Undeleted, Show, Count, Trigger, Configure, Target, Record, acknowledged, missing}
use Rattle.ckpt_terms.proofs.Imports.{ascending, hold, Hold, Interval, AtOnce, Pause, Go, State, is_checkpoint, is_expired, is_cancelled, moment_of, pending_of, Stepped, with_records}
use Rattle.ckpt_terms.proofs.Imports.{replaced, superseded, dropped_by, pending_checkpoints, failures_with, fails_the_job, triggered, failed_over, start_or_hold, after_expiry, tick}
use Rattle.ckpt_terms.proofs.Imports.{completed_with, acknowledged_in, ack, decline, decline_pending, dropping, dispose, restore, restarted, cancel, take_files, with_config, configure, show}
use Rattle.ckpt_terms.proofs.Imports.{effect, at_moment, step, step_by, ends_the_term, is_accepted}
use Rattle.ckpt_model.specs.State.{drop}

-- not cancelled, or as before
abbrev GoesOn : State → Stepped → Type 0
GoesOn m x = is_cancelled x.0.mode ≡ true → is_cancelled m.mode ≡ true

start_goes_on : (m : State) (expired : ℕ) (h : Hold) → GoesOn m (start_or_hold m expired h)
unfolding start_or_hold triggered
start_goes_on m expired Interval e = e
start_goes_on m expired AtOnce e = e
start_goes_on m expired Pause e = e
start_goes_on m expired Go e = e

tick_goes_on : (m : State) → GoesOn m (tick m)
unfolding tick after_expiry failed_over drop
tick_goes_on m =
    let expired : Record → Bool = is_expired m m.latest in
    let late : ℕ = count_by (λ r. expired r && is_checkpoint r) m.records in
    let counted : State = record m { failures = m.failures + late } in
    let k : State = drop counted expired None in
    let fails : Bool = ltb 0 late && ltb m.opening.config.tolerable (m.failures + late) in
    cond_both fails (failed_over counted, _) (after_expiry k (dropped_by m expired)) (λ (x : Stepped). GoesOn m x)
    (λ _ e. absurd (false≢true e))
    (λ _ e. start_goes_on k (dropped_by m expired) (hold k.opening.config k.due k.completed k.latest (pending_checkpoints k)) e)

completed_goes_on : (m : State) (r : Record) → GoesOn m (completed_with m r)
unfolding completed_with drop
completed_goes_on m r =
    let k : State = drop m (superseded m r) (Some r.id) in
    cond_both (is_checkpoint r) (record k { failures = 0; completed = Some k.latest; base = None }) k (λ (n : State). is_cancelled n.mode ≡ true → is_cancelled m.mode ≡ true) (λ _ e. e) (λ _ e. e)

acknowledged_goes_on : (m : State) (r : Record) → GoesOn m (acknowledged_in m r)
unfolding acknowledged_in
acknowledged_goes_on m r =
    let c : Record = record r { done = true } in
    cond_both (eqb (missing r) 0) (completed_with (with_records m (replaced m.records c)) c) (with_records m (replaced m.records r), _) (λ (x : Stepped). GoesOn m x)
    (λ _ e. completed_goes_on (with_records m (replaced m.records c)) c e)
    (λ _ e. e)

ack_goes_on : (m : State) (o : Option Record) (subtask : SubtaskId) (fresh reused : List ℕ) → GoesOn m (ack m o subtask fresh reused)
unfolding ack
ack_goes_on m None subtask fresh reused e = e
ack_goes_on m (Some r) subtask fresh reused e = acknowledged_goes_on m (acknowledged r subtask (ascending (fresh ++ reused))) e

decline_goes_on : (m : State) (o : Option Record) → GoesOn m (decline m o)
unfolding decline decline_pending dropping failed_over drop
decline_goes_on m None e = e
decline_goes_on m (Some r) e =
    let counted : State = record m { failures = failures_with m r } in
    cond_both (fails_the_job m r) (failed_over counted, _) (drop counted (λ s. eqb s.id r.id) None, _) (λ (x : Stepped). GoesOn m x)
    (λ _ e. absurd (false≢true e))
    (λ _ e. e)
    e

restore_goes_on : (m : State) (t : Target) (shape : Option (List ℕ)) → GoesOn m (restore m t shape)
unfolding restore restarted drop
restore_goes_on m t shape e = absurd (false≢true e)

show_goes_on : (m : State) (o : Option Record) → GoesOn m (m, show o)
show_goes_on m o e = e

-- the mode after a call that is accepted
effect_goes_on : (m : State) (call : Call) → is_cancelled (effect (at_moment m (moment_of call)) call).0.mode ≡ true
    → (is_cancelled m.mode ≡ true) ⊎ ((is_accepted (effect (at_moment m (moment_of call)) call).1 && ends_the_term call) ≡ true)
unfolding effect triggered dispose dropping drop take_files with_config configure cancel
effect_goes_on m (Tick now) e = inl (tick_goes_on (record m { latest = max now m.latest }) e)
effect_goes_on m (Savepoint now) e = inl e
effect_goes_on m (Ack now id subtask fresh reused) e = inl (ack_goes_on (record m { latest = max now m.latest }) (pending_of m.records id) subtask fresh reused e)
effect_goes_on m (Decline now id subtask) e = inl (decline_goes_on (record m { latest = max now m.latest }) (pending_of m.records id) e)
effect_goes_on m (Dispose id) e = inl e
effect_goes_on m (Restore now t shape) e = inl (restore_goes_on (record m { latest = max now m.latest }) t shape e)
effect_goes_on m (Cancel now) e = inr refl
effect_goes_on m (Take most) e = inl e
effect_goes_on m (Deleted file) e = inl e
effect_goes_on m (Undeleted file) e = inl e
effect_goes_on m (Show id) e = inl e
effect_goes_on m (Count file) e = inl e
effect_goes_on m (Trigger now) e = inl (start_goes_on (record m { latest = max now m.latest }) 0 Go e)
effect_goes_on m (Configure now config) e = inl e

-- a job that has ended for good after a call had ended before it, or the call ended it
pub cancelled_by : (m : State) (call : Call) → is_cancelled (step m call).0.mode ≡ true → (is_cancelled m.mode ≡ true) ⊎ ((is_accepted (step m call).1 && ends_the_term call) ≡ true)
cancelled_by m call =
    step_by m call (λ (x : Stepped). is_cancelled x.0.mode ≡ true → (is_cancelled m.mode ≡ true) ⊎ ((is_accepted x.1 && ends_the_term call) ≡ true)) (λ why _ e. inl e) (λ _ e. effect_goes_on m call e)
