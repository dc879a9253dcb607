-- A call whose answer does not say that it was made leaves the coordinator as it was.
use Rattle.relkvanu.proofs.Imports.{◌≡◌, ◌≢◌, ℕ, ◌+◌, max, Bool, true, false, ◌&&◌, ltb, eqb, List, ◌++◌, refl, sym, ap, ◌∙◌, ◌⊎◌, inl, inr, count_by, unwrap_or, length, Option, Some, None}
use Rattle.relkvanu.proofs.Imports.{cond_both, eqb_tells, SubtaskId, Call, Tick, Savepoint, Ack, Decline, Dispose, Restore, Cancel, Take, Deleted, Undeleted, Show, Count, Trigger, Configure}
use Rattle.relkvanu.proofs.Imports.{Target, Choice, Record, acknowledged, missing, ascending, hold, Hold, Interval, AtOnce, Pause, Go, State, choice_of, is_checkpoint, is_expired, record_of}
use Rattle.relkvanu.proofs.Imports.{released_by, moment_of, pending_of, Stepped, with_records, with_base, replaced, dropped_by, rolled_back, pending_checkpoints, failures_with, fails_the_job}
use Rattle.relkvanu.proofs.Imports.{start_or_hold, after_expiry, failed_over, tick, completed_with, acknowledged_in, ack, decline, decline_pending, dropping, dispose, restore, restarted}
use Rattle.relkvanu.proofs.Imports.{cancel, configure, take_files, show, effect, at_moment, step, step_by, FencedCall, Reserve, Forfeit, Make, Advance, FenceFault, Machine, FencedStepped}
use Rattle.relkvanu.proofs.Imports.{fenced_step, is_accepted, made, restart, core_in, fence_fault, is_free, machine_of, names_in, fenced_step_by, named_from, Answer, Asked, files_in, IsTaken}
use Rattle.relkvanu.proofs.Imports.{call_step, count_of, fence_told, fenced_told, term_step, asked_step, call_made, core_step, line_call_step, named_step, plain_step, answer_told, no_memory}
use Rattle.relkvanu.proofs.Imports.{restore_told, too_short}
use Rattle.ckpt_ids.specs.declared.reply.Choice.TheVariants as choice
use Rattle.ckpt_model.specs.State.{drop}
use Rattle.ckpt_terms.specs.declared.machine.Machine.TheVariants as machine
use Rattle.ckpt_terms.specs.Fencing.{Fenced}
use Rattle.relkvanu.specs.declared.asked.Asked.TheVariants as ask
use Rattle.ckpt_logged.proofs.Shows.{whole}

-- the call was made, and the answer says so
abbrev IsReply : Stepped → Type 0
IsReply x = (is_accepted x.1 ≡ true) × ((answer_told x.1).code ≡ 0)

start_replies : (m : State) (expired : ℕ) (h : Hold) → IsReply (start_or_hold m expired h)
unfolding start_or_hold
start_replies m expired Interval = (refl, refl)
start_replies m expired AtOnce = (refl, refl)
start_replies m expired Pause = (refl, refl)
start_replies m expired Go = (refl, refl)

tick_replies : (m : State) → IsReply (tick m)
unfolding tick after_expiry
tick_replies m =
    let expired : Record → Bool = is_expired m m.latest in
    let late : ℕ = count_by (λ r. expired r && is_checkpoint r) m.records in
    let counted : State = record m { failures = m.failures + late } in
    let k : State = drop counted expired None in
    let fails : Bool = ltb 0 late && ltb m.opening.config.tolerable (m.failures + late) in
    cond_both fails (failed_over counted, _) (after_expiry k (dropped_by m expired)) (λ (x : Stepped). IsReply x)
    (λ _. (refl, refl))
    (λ _. start_replies k (dropped_by m expired) (hold k.opening.config k.due k.completed k.latest (pending_checkpoints k)))

completed_replies : (m : State) (r : Record) → IsReply (completed_with m r)
unfolding completed_with
completed_replies m r = (refl, refl)

acknowledged_replies : (m : State) (r : Record) → IsReply (acknowledged_in m r)
unfolding acknowledged_in
acknowledged_replies m r =
    let c : Record = record r { done = true } in
    cond_both (eqb (missing r) 0) (completed_with (with_records m (replaced m.records c)) c) (with_records m (replaced m.records r), _) (λ (x : Stepped). IsReply x)
    (λ _. completed_replies (with_records m (replaced m.records c)) c)
    (λ _. (refl, refl))

ack_replies : (m : State) (o : Option Record) (subtask : SubtaskId) (fresh reused : List ℕ) → IsReply (ack m o subtask fresh reused)
unfolding ack
ack_replies m None subtask fresh reused = (refl, refl)
ack_replies m (Some r) subtask fresh reused = acknowledged_replies m (acknowledged r subtask (ascending (fresh ++ reused)))

decline_replies : (m : State) (o : Option Record) → IsReply (decline m o)
unfolding decline decline_pending dropping
decline_replies m None = (refl, refl)
decline_replies m (Some r) =
    let counted : State = record m { failures = failures_with m r } in
    cond_both (fails_the_job m r) (failed_over counted, _) (drop counted (λ s. eqb s.id r.id) None, _) (λ (x : Stepped). IsReply x) (λ _. (refl, refl)) (λ _. (refl, refl))

restored : (c : Choice) (released : ℕ) → (restore_told c released).code ≡ 0
restored (choice.Checkpoint id) released = refl
restored (choice.Savepoint id) released = refl
restored choice.Fresh released = refl

restore_replies : (m : State) (t : Target) (shape : Option (List ℕ)) → IsReply (restore m t shape)
unfolding restore
restore_replies m t shape =
    let after : State = restarted (with_base (record (drop m (rolled_back t) None) { shape = unwrap_or shape m.shape }) t) in
    (refl, restored (choice_of after) (length (released_by m (rolled_back t) None)))

-- the call is refused, and the state is as it was; or it was made
abbrev Ends : State → Stepped → Type 0
Ends m x = ((x.0 ≡ m) × (is_accepted x.1 ≡ false)) ⊎ IsReply x

show_ends : (m : State) (o : Option Record) → Ends m (m, show o)
show_ends m None = inl (refl, refl)
show_ends m (Some r) = inr (refl, refl)

effect_ends : (m : State) (call : Call) → Ends m (effect (at_moment m (moment_of call)) call)
unfolding effect dispose dropping take_files cancel configure
effect_ends m (Tick now) = inr (tick_replies (record m { latest = max now m.latest }))
effect_ends m (Savepoint now) = inr (refl, refl)
effect_ends m (Ack now id subtask fresh reused) = inr (ack_replies (record m { latest = max now m.latest }) (pending_of m.records id) subtask fresh reused)
effect_ends m (Decline now id subtask) = inr (decline_replies (record m { latest = max now m.latest }) (pending_of m.records id))
effect_ends m (Dispose id) = inr (refl, refl)
effect_ends m (Restore now t shape) = inr (restore_replies (record m { latest = max now m.latest }) t shape)
effect_ends m (Cancel now) = inr (refl, refl)
effect_ends m (Take most) = inr (refl, refl)
effect_ends m (Deleted file) = inr (refl, refl)
effect_ends m (Undeleted file) = inr (refl, refl)
effect_ends m (Show id) = show_ends m (record_of m id)
effect_ends m (Count file) = inr (refl, refl)
effect_ends m (Trigger now) = inr (start_replies (record m { latest = max now m.latest }) 0 Go)
effect_ends m (Configure now config) = inr (refl, refl)

step_ends : (m : State) (call : Call) → Ends m (step m call)
step_ends m call = step_by m call (λ (x : Stepped). Ends m x) (λ why _. inl (refl, refl)) (λ _. effect_ends m call)

stays_unless : (m : State) (x : Stepped) → Ends m x → (answer_told x.1).code ≢ 0 → x.0 ≡ m
stays_unless m x (inl refused) unmade = refused.0
stays_unless m x (inr made) unmade = absurd (unmade made.1)

refused_unless : (m : State) (x : Stepped) → Ends m x → (answer_told x.1).code ≢ 0 → is_accepted x.1 ≡ false
refused_unless m x (inl refused) unmade = refused.1
refused_unless m x (inr made) unmade = absurd (unmade made.1)

step_leaves : (m : State) (call : Call) → (answer_told (step m call).1).code ≢ 0 → (step m call).0 ≡ m
step_leaves m call = stays_unless m (step m call) (step_ends m call)

-- a take that finds too few places and a show leave the state too
call_leaves : (m : State) (places : ℕ) (call : Call) → (call_made m places call).1.code ≢ 0 → (call_made m places call).0 ≡ m
unfolding call_made
call_leaves m places (Tick now) = step_leaves m (Tick now)
call_leaves m places (Savepoint now) = step_leaves m (Savepoint now)
call_leaves m places (Ack now id subtask fresh reused) = step_leaves m (Ack now id subtask fresh reused)
call_leaves m places (Decline now id subtask) = step_leaves m (Decline now id subtask)
call_leaves m places (Dispose id) = step_leaves m (Dispose id)
call_leaves m places (Restore now t shape) = step_leaves m (Restore now t shape)
call_leaves m places (Cancel now) = step_leaves m (Cancel now)
call_leaves m places (Take most) =
    let s : Stepped = step m (Take most) in
    cond_both (ltb places (length (files_in s.1))) (m, too_short (length (files_in s.1))) (s.0, answer_told s.1) (λ (x : State × Answer). x.1.code ≢ 0 → x.0 ≡ m)
    (λ _ _. refl)
    (λ _. step_leaves m (Take most))
call_leaves m places (Deleted file) = step_leaves m (Deleted file)
call_leaves m places (Undeleted file) = step_leaves m (Undeleted file)
call_leaves m places (Show id) = λ _. refl
call_leaves m places (Count file) = step_leaves m (Count file)
call_leaves m places (Trigger now) = step_leaves m (Trigger now)
call_leaves m places (Configure now config) = step_leaves m (Configure now config)

-- the coordinator is as it was, unless the call was made
abbrev Leaves : Machine → Machine × Answer → Type 0
Leaves k x = x.1.code ≢ 0 → x.0 ≡ k

made_leaves : (m : Fenced) (call : FencedCall) → (fenced_told (count_of call) (made m call).1).code ≢ 0 → (made m call).0 ≡ m
made_leaves m (Reserve term count) unmade = absurd (unmade refl)
made_leaves m (Forfeit term names) unmade = absurd (unmade refl)
made_leaves m (Make term call) unmade =
    let core : (step m.core call).0 ≡ m.core = step_leaves m.core call unmade in
    let refused : is_accepted (step m.core call).1 ≡ false = refused_unless m.core (step m.core call) (step_ends m.core call) unmade in
    rw (refused, core) refl
made_leaves m (Advance now term first) unmade =
    let call : Call = restart now in
    let core : (step m.core call).0 ≡ m.core = step_leaves m.core call unmade in
    let refused : is_accepted (step m.core call).1 ≡ false = refused_unless m.core (step m.core call) (step_ends m.core call) unmade in
    rw (refused, core) refl

fenced_leaves : (m : Fenced) (call : FencedCall) → (fenced_told (count_of call) (fenced_step m call).1).code ≢ 0 → (fenced_step m call).0 ≡ m
fenced_leaves m call = fenced_step_by m call (λ (x : FencedStepped). (fenced_told (count_of call) x.1).code ≢ 0 → x.0 ≡ m) (λ why _. refl) (λ _. made_leaves m call)

term_leaves : (k : Machine) (call : FencedCall) → Leaves k (term_step k call)
term_leaves (machine.Plain m) call unmade = refl
term_leaves (machine.Fenced m) call unmade = ap machine.Fenced (fenced_leaves m call unmade)

alone_leaves : (k : Machine) (call : Call) → Leaves k (call_step k call)
alone_leaves (machine.Plain m) call unmade = ap machine.Plain (step_leaves m call unmade)
alone_leaves (machine.Fenced m) call unmade = ap machine.Fenced (fenced_leaves m (Make 0 call) unmade)

plain_leaves : (k : Machine) (places : ℕ) (call : Call) → Leaves k (plain_step k places call)
plain_leaves k places call =
    cond_both (is_free call) (core_step k (call_made (core_in k) places call)) (call_step k call) (λ (x : Machine × Answer). Leaves k x)
    (λ _ unmade. ap (λ (m : State). machine_of m (names_in k)) (call_leaves (core_in k) places call unmade) ∙ sym (whole k))
    (λ _. alone_leaves k call)

named_leaves : (k : Machine) (places term : ℕ) (call : Call) → Leaves k (named_step k places term call)
named_leaves (machine.Plain m) places term call = λ _. refl
named_leaves (machine.Fenced m) places term call =
    cond_both (is_free call) (plain_step (machine.Fenced m) places call) (term_step (machine.Fenced m) (Make term call)) (λ (x : Machine × Answer). Leaves (machine.Fenced m) x)
    (λ _. plain_leaves (machine.Fenced m) places call)
    (λ _. term_leaves (machine.Fenced m) (Make term call))

line_call_leaves : (k : Machine) (places : ℕ) (call : FencedCall) → Leaves k (line_call_step k places call)
line_call_leaves k places (Make term call) =
    cond_both (eqb term 0) (plain_step k places call) (named_step k places term call) (λ (x : Machine × Answer). Leaves k x)
    (λ _. plain_leaves k places call)
    (λ _. named_leaves k places term call)
line_call_leaves k places (Reserve term count) = term_leaves k (Reserve term count)
line_call_leaves k places (Forfeit term names) = term_leaves k (Forfeit term names)
line_call_leaves k places (Advance now term first) = term_leaves k (Advance now term first)

fence_leaves : (k : Machine) (first : ℕ) (why : Option FenceFault) → Leaves k (named_from k first why, fence_told why)
fence_leaves k first None unmade = absurd (unmade refl)
fence_leaves k first (Some why) unmade = refl

pub asked_leaves : (k : Machine) (places : ℕ) (asked : Asked) → Leaves k (asked_step k places asked)
asked_leaves k places (ask.Fence first) = fence_leaves k first (fence_fault k first)
asked_leaves k places (ask.Call call) = line_call_leaves k places call

-- what was asked for and not made, for want of memory or for another reason, has left the coordinator as it was
pub unmade_leaves : (old new : Machine) (places : ℕ) (asked : Asked) (answer : Answer) → IsTaken (λ k. asked_step k places asked) old new answer
    → (answer.code ≡ no_memory → new ≡ old) → answer.code ≢ 0 → new ≡ old
unmade_leaves old new places asked answer taken unchanged unmade =
    by_code (eqb_tells answer.code no_memory)
  where
    by_code : ((eqb answer.code no_memory ≡ true) × (answer.code ≡ no_memory)) ⊎ ((eqb answer.code no_memory ≡ false) × (answer.code ≢ no_memory)) → new ≡ old
    by_code (inl is) = unchanged is.1
    by_code (inr is_not) =
        let after = taken is_not.1 in
        after.0 ∙ asked_leaves old places asked (λ done. unmade (ap (λ (a : Answer). a.code) after.1 ∙ done))
