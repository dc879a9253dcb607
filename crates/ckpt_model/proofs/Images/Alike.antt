-- No answer depends on the order in which files were fetched.
use Rattle.ckpt_model.proofs.Names.{◌≡◌, ℕ, ◌+◌, max, Bool, true, false, not, ◌&&◌, ◌||◌, cond, ltb, eqb, List, [], ◌∷◌, ◌++◌, take, refl, sym, ap, subst, ◌∙◌, count_by, Option, Some, None, list_any}
use Rattle.ckpt_model.proofs.Names.{cases_Bool, both_ways, SubtaskId, Kind, Target, Call, Trigger, Configure, configure, with_config, Go, Tick, Savepoint, Ack, Decline, Dispose, Restore, Cancel, Take, Deleted, Undeleted, Show, Count, Choice, Done}
use Rattle.ckpt_model.proofs.Names.{Refusal, ascending, times, IsIn, Record, missing, uses, is_present, IsAscending-ascending, same_from_times, times-ascending, times-append, times-filter}
use Rattle.ckpt_model.proofs.Names.{IsIn-append_left, IsIn-append_right, IsIn-append_cases, IsIn-in_order, IsIn-from_in_order, filter-same, list_any-from_IsIn, IsIn-from_list_any, Hold, hold, State}
use Rattle.ckpt_model.proofs.Names.{is_checkpoint, is_known, in_outbox, is_expired, drop, choice_of, chosen, files_of, pins_now, refusal, moment_of, pending_of, Stepped, with_records, dropped_by}
use Rattle.ckpt_model.proofs.Names.{triggered, failed_over, pending_checkpoints, start_or_hold, after_expiry, tick, replaced, superseded, cleared, completed_with, acknowledged_in, ack, dropping}
use Rattle.ckpt_model.proofs.Names.{decline_pending, decline, dispose, restarted, restore, cancel, take_files, without, effect, at_moment, unless_refused, step, answers, AreAlike, GoesOnAs}
use Rattle.ckpt_model.proofs.Names.{common_steps, arith}
use Rattle.std.specs.Prelude as prelude
use Rattle.ckpt_ids.specs.declared.numbers.Kind.TheVariants as kind
use Rattle.ckpt_ids.specs.declared.reply.TickEnd.TheVariants as end
use Rattle.ckpt_ids.specs.declared.reply.Reply.TheVariants as reply
use Rattle.ckpt_model.proofs.Records.{find_agree}

-- the same files, in whatever order
abbrev Same : List ℕ → List ℕ → Type 0
Same t u = ascending t ≡ ascending u

same_times : (t u : List ℕ) → Same t u → (z : ℕ) → times z t ≡ times z u
same_times t u e z = sym (times-ascending z t) ∙ ap (times z) e ∙ times-ascending z u

from_times : (t u : List ℕ) → ((z : ℕ) → times z t ≡ times z u) → Same t u
from_times t u e = same_from_times (ascending t) (ascending u) (IsAscending-ascending t) (IsAscending-ascending u) (λ z. times-ascending z t ∙ e z ∙ sym (times-ascending z u))

in_same : (t u : List ℕ) → Same t u → (z : ℕ) → IsIn z t → IsIn z u
in_same t u e z h = let P : List ℕ → Type 0 = λ xs. IsIn z xs in IsIn-from_in_order ltb z u (subst P e (IsIn-in_order ltb z t h))

-- files fetched behind them
same-append : (t u xs : List ℕ) → Same t u → Same (t ++ xs) (u ++ xs)
same-append t u xs e = from_times (t ++ xs) (u ++ xs) (λ z. times-append z t xs ∙ ap (λ n. n + times z xs) (same_times t u e z) ∙ sym (times-append z u xs))

-- files without one
same-without : (f : ℕ) (t u : List ℕ) → Same t u → Same (without f t) (without f u)
same-without f t u e =
    let p : ℕ → Bool = λ g. not (eqb g f) in
    from_times (without f t) (without f u) (λ z. times-filter p z t ∙ ap (λ n. cond (p z) n 0) (same_times t u e z) ∙ sym (times-filter p z u))

-- whether a test passes somewhere
same_any : (p : ℕ → Bool) (xs ys : List ℕ) → ((z : ℕ) → IsIn z xs → IsIn z ys) → ((z : ℕ) → IsIn z ys → IsIn z xs) → list_any p xs ≡ list_any p ys
same_any p xs ys there back = grind (arith, common_steps, IsIn-from_list_any, both_ways, cases_Bool, list_any-from_IsIn)

same_any_taken : (p : ℕ → Bool) (t u : List ℕ) → Same t u → list_any p t ≡ list_any p u
same_any_taken p t u e = same_any p t u (in_same t u e) (in_same u t (sym e))

-- the state with these files fetched
abbrev with_taken : State → List ℕ → State
with_taken m t = record m { taken = t }

same_outbox : (m : State) (t u : List ℕ) → Same t u → (f : ℕ) → in_outbox (with_taken m t) f ≡ in_outbox (with_taken m u) f
same_outbox m t u e f =
    same_any (λ g. eqb f g) (m.waiting ++ t) (m.waiting ++ u)
    (λ z h. grind (arith, common_steps, IsIn-append_left z m.waiting u, IsIn-append_right z m.waiting u, in_same t u e z, IsIn-append_cases z m.waiting t h))
    (λ z h. grind (arith, common_steps, IsIn-append_left z m.waiting t, IsIn-append_right z m.waiting t, in_same u t (sym e) z, IsIn-append_cases z m.waiting u h))

same_known : (m : State) (t u : List ℕ) → Same t u → (f : ℕ) → is_known (with_taken m t) f ≡ is_known (with_taken m u) f
same_known m t u e f = ap (λ b. is_present (uses m.records) f || b) (same_outbox m t u e f)

-- the table of refusals
same_refusal : (m : State) (t u : List ℕ) (call : Call) → Same t u → refusal (with_taken m t) call ≡ refusal (with_taken m u) call
unfolding refusal
same_refusal m t u call e = grind (arith, common_steps, find_agree, same_known, same_any_taken)

-- A step that neither looks at the fetched files nor changes them.

-- the same step in a state with these files fetched
abbrev framed : List ℕ → Stepped → Stepped
framed t x = (with_taken x.0 t, x.1)

either : (t : List ℕ) (b : Bool) (x y x' y' : Stepped) → x' ≡ framed t x → y' ≡ framed t y → cond b x' y' ≡ framed t (cond b x y)
either t b x y x' y' h6 h7 = grind (arith, common_steps)

chosen_frame : (m : State) (t : List ℕ) (c : Choice) → chosen c (with_taken m t) ≡ chosen c m
chosen_frame m t c = grind (arith, common_steps)

pins_frame : (m : State) (t : List ℕ) → pins_now (with_taken m t) ≡ pins_now m
unfolding pins_now choice_of
pins_frame m t = ap files_of (chosen_frame m t (choice_of m))

abbrev new_record : State → Kind → List ℕ → Record
new_record m its_kind pins = record { id = m.next; kind = its_kind; done = false; shape = m.shape; started = m.latest; acks = []; pins = pins }

triggered_frame : (m : State) (t : List ℕ) (its_kind : Kind) → triggered (with_taken m t) its_kind ≡ with_taken (triggered m its_kind) t
unfolding triggered
triggered_frame m t its_kind = ap (λ pins. record m { next = m.next + 1; records = m.records ++ new_record m its_kind pins ∷ []; taken = t }) (pins_frame m t)

start_frame : (m : State) (t : List ℕ) (expired : ℕ) (h : Hold) → start_or_hold (with_taken m t) expired h ≡ framed t (start_or_hold m expired h)
unfolding start_or_hold
start_frame m t expired h = grind (arith, common_steps, triggered_frame)

tick_frame : (m : State) (t : List ℕ) → tick (with_taken m t) ≡ framed t (tick m)
unfolding tick drop failed_over after_expiry
tick_frame m t =
    let expired : Record → Bool = is_expired m m.latest in
    let late : ℕ = count_by (λ r. expired r && is_checkpoint r) m.records in
    let counted : State = record m { failures = m.failures + late } in
    let k : State = drop counted expired None in
    either t (ltb 0 late && ltb m.opening.config.tolerable (m.failures + late)) (failed_over counted, _) (after_expiry k (dropped_by m expired)) _
    (after_expiry (with_taken k t) (dropped_by m expired))
    refl (start_frame k t (dropped_by m expired) (hold k.opening.config k.due k.completed k.latest (pending_checkpoints k)))

cleared_frame : (m : State) (t : List ℕ) (r : Record) → cleared (with_taken m t) r ≡ with_taken (cleared m r) t
cleared_frame m t r = grind (arith, common_steps)

completed_frame : (m : State) (t : List ℕ) (r : Record) → completed_with (with_taken m t) r ≡ framed t (completed_with m r)
unfolding completed_with drop
completed_frame m t r = ap (λ (s : State). (s, (completed_with m r).1)) (cleared_frame (drop m (superseded m r) (Some r.id)) t r)

acknowledged_frame : (m : State) (t : List ℕ) (r : Record) → acknowledged_in (with_taken m t) r ≡ framed t (acknowledged_in m r)
unfolding acknowledged_in
acknowledged_frame m t r =
    let its : Record = record r { done = true } in
    let n : State = with_records m (replaced m.records its) in
    either t (eqb (missing r) 0) (completed_with n its) (with_records m (replaced m.records r), Done (reply.AckPending (missing r)))
    (completed_with (with_taken n t) its) (with_taken (with_records m (replaced m.records r)) t, Done (reply.AckPending (missing r)))
    (completed_frame n t its) refl

decline_frame : (m : State) (t : List ℕ) (o : Option Record) → decline (with_taken m t) o ≡ framed t (decline m o)
unfolding decline decline_pending dropping failed_over drop
decline_frame m t o = grind (arith, common_steps, either)

restore_frame : (m : State) (t : List ℕ) (target : Target) (shape : Option (List ℕ)) → restore (with_taken m t) target shape ≡ framed t (restore m target shape)
unfolding restore restarted drop choice_of
restore_frame m t target shape = grind (arith, common_steps)

-- Both states are alike after the step, and answer the same.
abbrev Both : Stepped → Stepped → Type 0
Both x y = AreAlike x.0 y.0 × (x.1 ≡ y.1)

-- of such a step
both_framed : (t u : List ℕ) (x y z : Stepped) → Same t u → x ≡ framed t z → y ≡ framed u z → Both x y
both_framed t u x y z e a b = grind (arith, common_steps)

-- a late acknowledgement looks whether its files are known
late_both : (m : State) (t u : List ℕ) (subtask : SubtaskId) (fresh reused : List ℕ) → Same t u → Both (ack (with_taken m t) None subtask fresh reused) (ack (with_taken m u) None subtask fresh reused)
unfolding ack
late_both m t u subtask fresh reused e = grind (arith, common_steps, filter-same, same_known)

ack_both : (m : State) (t u : List ℕ) (o : Option Record) (subtask : SubtaskId) (fresh reused : List ℕ) → Same t u
    → Both (ack (with_taken m t) o subtask fresh reused) (ack (with_taken m u) o subtask fresh reused)
unfolding ack
ack_both m t u None subtask fresh reused e = late_both m t u subtask fresh reused e
ack_both m t u (Some r) subtask fresh reused e = grind (arith, common_steps, acknowledged_frame, both_framed)

-- what an accepted call does, at its moment
effect_both : (m : State) (t u : List ℕ) (call : Call) → Same t u → Both (effect (at_moment (with_taken m t) (moment_of call)) call) (effect (at_moment (with_taken m u) (moment_of call)) call)
unfolding effect dispose dropping cancel take_files configure with_config drop
effect_both m t u (Tick now) e = let n : State = record m { latest = max now m.latest } in both_framed t u (tick (with_taken n t)) (tick (with_taken n u)) (tick n) e (tick_frame n t) (tick_frame n u)
effect_both m t u (Savepoint now) e =
    let n : State = record m { latest = max now m.latest } in
    let say : State → Stepped = λ s. (s, Done (reply.SavepointTriggered m.next)) in
    both_framed t u (say (triggered (with_taken n t) kind.Savepoint)) (say (triggered (with_taken n u) kind.Savepoint)) (say (triggered n kind.Savepoint)) e
    (ap say (triggered_frame n t kind.Savepoint)) (ap say (triggered_frame n u kind.Savepoint))
effect_both m t u (Ack now id subtask fresh reused) e = ack_both (record m { latest = max now m.latest }) t u (pending_of m.records id) subtask fresh reused e
effect_both m t u (Decline now id subtask) e =
    let n : State = record m { latest = max now m.latest } in
    let o : Option Record = pending_of m.records id in
    both_framed t u (decline (with_taken n t) o) (decline (with_taken n u) o) (decline n o) e (decline_frame n t o) (decline_frame n u o)
effect_both m t u (Dispose id) e = both_framed t u (dispose (with_taken m t) id) (dispose (with_taken m u) id) (dispose m id) e refl refl
effect_both m t u (Restore now target shape) e =
    let n : State = record m { latest = max now m.latest } in
    both_framed t u (restore (with_taken n t) target shape) (restore (with_taken n u) target shape) (restore n target shape) e (restore_frame n t target shape) (restore_frame n u target shape)
effect_both m t u (Cancel now) e = let n : State = record m { latest = max now m.latest } in both_framed t u (cancel (with_taken n t)) (cancel (with_taken n u)) (cancel n) e refl refl
effect_both m t u (Take most) e = (ap (λ xs. record m { waiting = prelude.drop most m.waiting; taken = xs }) (same-append t u (take most m.waiting) e), refl)
effect_both m t u (Deleted file) e = (ap (λ xs. record m { taken = xs }) (same-without file t u e), refl)
effect_both m t u (Undeleted file) e = (ap (λ xs. record m { waiting = m.waiting ++ file ∷ []; taken = xs }) (same-without file t u e), refl)
effect_both m t u (Show id) e = (ap (with_taken m) e, refl)
effect_both m t u (Count file) e = (ap (with_taken m) e, refl)
effect_both m t u (Trigger now) e =
    let n : State = record m { latest = max now m.latest } in
    both_framed t u (start_or_hold (with_taken n t) 0 Go) (start_or_hold (with_taken n u) 0 Go) (start_or_hold n 0 Go) e (start_frame n t 0 Go) (start_frame n u 0 Go)
effect_both m t u (Configure now c) e = let n : State = record m { latest = max now m.latest } in both_framed t u (configure (with_taken n t) c) (configure (with_taken n u) c) (configure n c) e refl refl

-- a call that is refused leaves both as they are
unless_both : (m : State) (t u : List ℕ) (call : Call) (o : Option Refusal) → Same t u → Both (unless_refused (with_taken m t) call o) (unless_refused (with_taken m u) call o)
unless_both m t u call o h5 = grind (arith, common_steps, effect_both)

step_both : (m : State) (t u : List ℕ) (call : Call) → Same t u → Both (step (with_taken m t) call) (step (with_taken m u) call)
unfolding step
step_both m t u call e = grind (arith, common_steps, same_refusal, unless_both)

step_alike : (m n : State) (call : Call) → AreAlike m n → Both (step m call) (step n call)
step_alike m n call e = grind (arith, common_steps, step_both)

pub go_on_alike : (m n : State) (calls : List Call) → AreAlike m n → GoesOnAs m n calls
go_on_alike m n [] e = record { answers = refl; state = e }
go_on_alike m n (call ∷ calls) e =
    let one : Both (step m call) (step n call) = step_alike m n call e in
    let rest : GoesOnAs (step m call).0 (step n call).0 calls = go_on_alike (step m call).0 (step n call).0 calls one.0 in
    grind (arith, common_steps)
