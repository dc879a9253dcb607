-- What the parts become when records end by a call, and the step of the state that this is.
use Rattle.ckpt_core.proofs.Names.{FailureCount, Moments, gap, IsStored, Stored, Mode, Running, Failed, Cancelled, Parts, with_pins, grouped, Answers, AreTied, AreSound, Drops, IsAccepted, records_in}
use Rattle.ckpt_core.proofs.Names.{both_ways, cond-true, cond-false, SubtaskId, the_type, Kind, Call, Target, Choice, Reply, Done, IsIn, IsInOrder, Record, IsIn-append_left, IsIn-map, IsIn-in_order}
use Rattle.ckpt_core.proofs.Names.{decline, decline_pending, dispose, dropping, failed_over, restarted, restore, rolled_back, with_base, cancel, cancelled, dropped_by, IsIn-from_find}
use Rattle.ckpt_core.proofs.Names.{state_of, refusal, pending_of, is_done_savepoint, IsSound, id_before, State, choice_of, drop, released_by, is_pending, Stepped, effect, failures_with, fails_the_job}
use Rattle.ckpt_core.proofs.Names.{◌≡◌, ℕ, ◌+◌, ◌<◌, ◌≤◌, max, Bool, true, false, ltb, eqb, List, [], ◌++◌, map, length, refl, sym, ap, subst, ◌∙◌, arith, Some, None, find, IsTrue, ◌↔◌, sameb}
use Rattle.ckpt_core.proofs.Records.{GroupLookups.last_id-greatest, GroupLookups.last_checkpoint-groups, Grouped.apart-from_in_order, Lookups.AreGroups, Lookups.has_number, Lookups.pending_of-groups}
use Rattle.ckpt_core.proofs.{Ending.Drops.apart_in, Names.in_order-changed, Names.step_accepted, Names.common_steps}
use Rattle.ckpt_ids.specs.declared.numbers.Kind.TheVariants as kind
use Rattle.ckpt_ids.specs.declared.call.Call.TheVariants as call
use Rattle.ckpt_ids.specs.declared.call.Target.TheVariants as target
use Rattle.ckpt_ids.specs.declared.reply.Reply.TheVariants as reply
use Rattle.ckpt_store.specs.Storing as storing

-- a state and a number, by what they are equal to
pub answered : (say : ℕ → Reply) (s t : State) (k n : ℕ) → t ≡ s → n ≡ k → (let x : Stepped = (s, Done (say k)) in x) ≡ (t, Done (say n))
answered say s t k n e f = ap (λ x. (let y : Stepped = (x, Done (say k)) in y)) (sym e) ∙ ap (λ x. (let y : Stepped = (t, Done (say x)) in y)) (sym f)

-- a savepoint is let go
pub disposed_answers : (p q : Parts) (id n : ℕ) → IsAccepted p (call.Dispose id) → Drops p q (λ r. eqb r.id id) n → Answers p q (call.Dispose id) (reply.Disposed n)
unfolding effect dispose dropping
disposed_answers p q id n accepted d = grind (arith, common_steps, answered, step_accepted)

-- a subtask declines
pub late_declined : (p : Parts) (now id : ℕ) (subtask : SubtaskId) → AreSound p → IsAccepted p (call.Decline now id subtask) → pending_of (records_in p) id ≡ None →
    Answers p (record p { clock = record p.clock { latest = max now p.clock.latest } }) (call.Decline now id subtask) reply.DeclineLate
unfolding state_of effect decline
late_declined p now id subtask sound accepted none = record {
  step_is = step_accepted (state_of p) (call.Decline now id subtask) accepted ∙ ap (decline (record (state_of p) { latest = max now p.clock.latest })) none;
  tied = record { uses_are = sound.tied.uses_are; retained = sound.tied.retained; tolerable = sound.tied.tolerable; spare = sound.tied.spare; room = sound.tied.room };
  none_ended = sound.none_ended;
}

failed : (m : State) (r : Record) → fails_the_job m r ≡ true →
    decline m (Some r) ≡ (failed_over (record m { failures = failures_with m r }), Done (reply.DeclineFailed (length (released_by m is_pending None))))
unfolding decline decline_pending
failed m r fails = cond-true (fails_the_job m r) _ _ fails

aborted : (m : State) (r : Record) → fails_the_job m r ≡ false → decline m (Some r) ≡ dropping (record m { failures = failures_with m r }) (λ s. eqb s.id r.id) reply.DeclineAborted
unfolding decline decline_pending
aborted m r stays = cond-false (fails_the_job m r) _ _ stays

-- the record of a number that is pending
pub pending_there : (p : Parts) (id : ℕ) (r : Record) → IsSound (state_of p) → AreGroups p.pending p.store.checkpoints p.store.savepoints → find (has_number id) p.pending ≡ Some r →
    pending_of (records_in p) id ≡ Some (with_pins p.registry r)
pending_there p id r sound groups e = grind (arith, common_steps, apart_in, pending_of-groups)

-- while a record is pending few checkpoints have failed
pub few_failed : (p : Parts) (id : ℕ) (r : Record) → AreSound p → AreGroups p.pending p.store.checkpoints p.store.savepoints → find (has_number id) p.pending ≡ Some r → p.failures.number ≤ 1000
unfolding state_of
few_failed p id r sound groups e =
    let k = IsIn-from_find (has_number id) r p.pending e in
    let there : IsIn (with_pins p.registry r) (records_in p) = IsIn-in_order id_before (with_pins p.registry r) (grouped p.registry p.pending p.store.checkpoints p.store.savepoints)
    (IsIn-append_left (with_pins p.registry r) (map (with_pins p.registry) p.pending) (p.store.checkpoints ++ p.store.savepoints) (IsIn-map (with_pins p.registry) r p.pending k.0)) in
    let runs : p.mode ≡ Running → p.failures.number ≤ 1000 = λ (e : p.mode ≡ Running). omega (arith, sound.sound.failures e, sound.sound.config.tolerable_to) in
    let idle : (p.mode ≡ Running → ⊥) → p.failures.number ≤ 1000 = λ (ne : p.mode ≡ Running → ⊥). absurd (both_ways r.done (groups.not_done r k.0) (sound.sound.idle ne (with_pins p.registry r)
    there)) in
    let P : Mode → Type 0 = λ mode. p.mode ≡ mode → p.failures.number ≤ 1000 in
    elim p.mode as P [ Running ↦ runs | Failed ↦ (λ (e : p.mode ≡ Failed). idle (λ (k : p.mode ≡ Running). cc)) | Cancelled ↦ (λ (e : p.mode ≡ Cancelled). idle (λ (k : p.mode ≡ Running). cc)) ] refl

-- the parts after a decline that counts so many failures
abbrev pub declined : Parts → ℕ → FailureCount → Parts
declined q now failures = record q { clock = record q.clock { latest = max now q.clock.latest }; failures = failures }

declined_tied : (p q : Parts) (now : ℕ) (failures : FailureCount) → AreTied p → AreTied q → q.opened.config.tolerable ≡ p.opened.config.tolerable → failures.tolerable ≡ p.failures.tolerable →
    AreTied (declined q now failures)
declined_tied p q now failures before tied same e = grind (arith, common_steps)

pub failed_answers : (p q : Parts) (now id : ℕ) (subtask : SubtaskId) (r : Record) (failures : FailureCount) (n : ℕ) → AreTied p → IsAccepted p (call.Decline now id subtask) →
    pending_of (records_in p) id ≡ Some r → failures ≡ record p.failures { number = failures_with (state_of p) r } → fails_the_job (state_of p) r ≡ true → state_of q ≡ failed_over (state_of p) →
    n ≡ length (released_by (state_of p) is_pending None) → AreTied q → q.ended.items ≡ [] → Answers p (declined q now failures) (call.Decline now id subtask) (reply.DeclineFailed n)
unfolding state_of effect failed_over drop
failed_answers p q now id subtask r failures n before accepted there count fails is released tied none =
    let m : State = record (state_of p) { latest = max now p.clock.latest } in
    let F : State → State = λ s. record s { latest = max now s.latest; failures = failures.number } in
    record {
      step_is = step_accepted (state_of p) (call.Decline now id subtask) accepted
          ∙ ap (decline m) there ∙ failed m r fails
          ∙ answered reply.DeclineFailed (failed_over (record m { failures = failures_with m r })) (state_of (declined q now failures)) (length (released_by m is_pending None)) n
          (ap F is ∙ ap (λ k. failed_over (record m { failures = k })) (ap (λ f. f.number) count)) released;
      tied = declined_tied p q now failures before tied (ap (λ s. s.opening.config.tolerable) is) (ap (λ f. f.tolerable) count);
      none_ended = none;
    }

pub aborted_answers : (p q : Parts) (now id : ℕ) (subtask : SubtaskId) (r : Record) (failures : FailureCount) (n : ℕ) → AreTied p → IsAccepted p (call.Decline now id subtask) →
    pending_of (records_in p) id ≡ Some r → r.id ≡ id → failures ≡ record p.failures { number = failures_with (state_of p) r } → fails_the_job (state_of p) r ≡ false → Drops p q (λ s. eqb s.id id) n →
    Answers p (declined q now failures) (call.Decline now id subtask) (reply.DeclineAborted n)
unfolding state_of effect drop dropping
aborted_answers p q now id subtask r failures n before accepted there its count stays d =
    let m : State = record (state_of p) { latest = max now p.clock.latest } in
    let counted : State = record m { failures = failures.number } in
    let F : State → State = λ s. record s { latest = max now s.latest; failures = failures.number } in
    record {
      step_is = step_accepted (state_of p) (call.Decline now id subtask) accepted
          ∙ ap (decline m) there ∙ aborted m r stays
          ∙ ap (λ k. dropping (record m { failures = k }) (λ s. eqb s.id r.id) reply.DeclineAborted) (sym (ap (λ f. f.number) count))
          ∙ ap (λ i. dropping counted (λ s. eqb s.id i) reply.DeclineAborted) its
          ∙ answered reply.DeclineAborted (drop counted (λ s. eqb s.id id) None) (state_of (declined q now failures)) (length (released_by counted (λ s. eqb s.id id) None)) n
          (ap F d.state_is) d.count_is;
      tied = declined_tied p q now failures before d.tied (ap (λ s. s.opening.config.tolerable) d.state_is) (ap (λ f. f.tolerable) count);
      none_ended = d.none_ended;
    }

pub declined_as : (p x q : Parts) (now : ℕ) (clock : Moments) (failures f : FailureCount) (call : Call) (r s : Reply) → x ≡ q → clock ≡ record x.clock { latest = max now x.clock.latest } →
    failures ≡ f → r ≡ s → Answers p (declined q now f) call s → Answers p (record x { clock = clock; failures = failures }) call r
declined_as p x q now clock failures f call r s is ticks counts says answers = grind (arith, common_steps)

-- tests
pub kind_test : (k : Kind) → sameb the_type k kind.Checkpoint ≡ elim k [ kind.Checkpoint ↦ true | kind.Savepoint ↦ false ]
kind_test kind.Checkpoint = refl
kind_test kind.Savepoint = refl

-- what `Failures::add` returns
pub are_too_many : (b : Bool) (t n : ℕ) → IsTrue b ↔ (t < n) → b ≡ ltb t n
are_too_many b t n says = grind (arith, common_steps)

-- the choice
pub choice_is : (p : Parts) → IsInOrder id_before (records_in p) → AreGroups p.pending p.store.checkpoints p.store.savepoints → IsStored p.store → storing.choice_of p.store ≡ choice_of (state_of p)
unfolding state_of choice_of
choice_is p order groups stored = grind (arith, common_steps, apart-from_in_order, last_checkpoint-groups, last_id-greatest)

-- rolling back
with_base_records : (m : State) (t : Target) → (with_base m t).records ≡ m.records
with_base_records m target.Latest = refl
with_base_records m (target.Savepoint id) = refl

pub rolled_back_in_order : (p q : Parts) (t : Target) → IsSound (state_of p) → state_of q ≡ with_base (drop (state_of p) (rolled_back t) None) t → IsInOrder id_before (records_in q)
unfolding state_of drop
rolled_back_in_order p q t sound is = grind (arith, common_steps, in_order-changed, with_base_records)

-- a state with a base that is there
pub based_is_sound : (m : State) (id : ℕ) → IsSound m → is_done_savepoint m id ≡ true → IsSound (record m { base = Some id })
based_is_sound m id s there = record {
  config = s.config;
  shape = s.shape;
  latest = s.latest;
  first = s.first;
  next_from = s.next_from;
  next_to = s.next_to;
  records = s.records;
  base = λ b e. let same : id ≡ b = cc in let P : ℕ → Type 0 = λ i. is_done_savepoint m i ≡ true in subst P same there;
  idle = s.idle;
  failures = s.failures;
  unused = s.unused;
  apart = s.apart;
}

-- the parts after a restart
abbrev pub begun : Parts → ℕ → Parts
begun q now = record q {
  clock = record { latest = max now q.clock.latest; due = max now q.clock.latest + gap q.opened.config; completed = None };
  failures = record q.failures { number = 0 };
  mode = Running;
}

-- the state after a restart
begun_state : State → ℕ → State
begun_state s now = record s { mode = Running; failures = 0; latest = max now s.latest; due = max now s.latest + gap s.opening.config; completed = None }

restore_is : (m : State) (now : ℕ) (t : Target) → (let after : State = begun_state (with_base (drop m (rolled_back t) None) t) now in restore (record m { latest = max now m.latest }) t None ≡
    (after, Done (reply.Restored (choice_of after) (length (released_by m (rolled_back t) None)))))
unfolding restore restarted drop begun_state
restore_is m now target.Latest = refl
restore_is m now (target.Savepoint id) = refl

-- in another shape
pub same_refusal : (m : State) (now : ℕ) (t : Target) (shape : List ℕ) → refusal m (call.Restore now t (Some shape)) ≡ None → refusal m (call.Restore now t None) ≡ None
unfolding refusal
same_refusal m now target.Latest shape h = h
same_refusal m now (target.Savepoint id) shape h = h

reshaped : (m : State) (t : Target) (shape : List ℕ) → restore m t (Some shape) ≡ (record (restore m t None).0 { shape = shape }, (restore m t None).1)
unfolding restore restarted drop choice_of
reshaped m target.Latest shape = refl
reshaped m (target.Savepoint id) shape = refl

pub reshaped_answers : (p q : Parts) (now : ℕ) (t : Target) (shape : List ℕ) (r : Reply) → IsAccepted p (call.Restore now t (Some shape)) → Answers p q (call.Restore now t None) r →
    Answers p (record q { reshaped = Some shape }) (call.Restore now t (Some shape)) r
unfolding state_of effect
reshaped_answers p q now t shape r accepted a = grind (arith, common_steps, reshaped, same_refusal, step_accepted)

-- cancelling
abbrev pub ceased : Parts → ℕ → Parts
ceased q now = record q { clock = record q.clock { latest = max now q.clock.latest }; store = record q.store { base = None }; mode = Cancelled }

-- the parts with a base that is there
pub based_sound : (p : Parts) (id : ℕ) (store : Stored) → AreSound p → is_done_savepoint (state_of p) id ≡ true → store ≡ record p.store { base = Some id } → AreSound (record p { store = store })
unfolding state_of
based_sound p id store sound there is =
    rw is (record {
      tied = record { uses_are = sound.tied.uses_are; retained = sound.tied.retained; tolerable = sound.tied.tolerable; spare = sound.tied.spare; room = sound.tied.room };
      sound = based_is_sound (state_of p) id sound.sound there;
      none_ended = sound.none_ended;
    })

pub based_state : (p q : Parts) (id : ℕ) (store : Stored) (gone : Record → Bool) → store ≡ record p.store { base = Some id } → state_of q ≡ drop (state_of (record p { store = store })) gone None →
    state_of q ≡ record (drop (state_of p) gone None) { base = Some id }
unfolding state_of drop
based_state p q id store gone based is = is ∙ ap (λ s. drop (state_of (record p { store = s })) gone None) based

pub based_count : (p : Parts) (id n : ℕ) (store : Stored) (gone : Record → Bool) → store ≡ record p.store { base = Some id } →
    n ≡ length (released_by (state_of (record p { store = store })) gone None) → n ≡ length (released_by (state_of p) gone None)
unfolding state_of
based_count p id n store gone based is = is ∙ ap (λ s. length (released_by (state_of (record p { store = s })) gone None)) based

pub restarted_clock : (now moment : ℕ) (q : Parts) (seen clock : Moments) → moment ≡ max now q.clock.latest → seen ≡ record q.clock { latest = max now q.clock.latest } →
    clock ≡ record { latest = seen.latest; due = moment + gap q.opened.config; completed = None } →
    clock ≡ record { latest = max now q.clock.latest; due = max now q.clock.latest + gap q.opened.config; completed = None }
restarted_clock now moment q seen clock at sees restarts = grind (arith, common_steps)

pub restored_answers : (p q : Parts) (now : ℕ) (t : Target) (clock : Moments) (failures : FailureCount) (from : Choice) (n : ℕ) → IsAccepted p (call.Restore now t None) →
    state_of q ≡ with_base (drop (state_of p) (rolled_back t) None) t → n ≡ length (released_by (state_of p) (rolled_back t) None) → AreTied q → q.ended.items ≡ [] →
    clock ≡ record { latest = max now q.clock.latest; due = max now q.clock.latest + gap q.opened.config; completed = None } → failures ≡ record q.failures { number = 0 } →
    from ≡ choice_of (state_of (record q { clock = clock; failures = failures; mode = Running })) →
    Answers p (record q { clock = clock; failures = failures; mode = Running }) (call.Restore now t None) (reply.Restored from n)
unfolding state_of effect begun_state
restored_answers p q now t clock failures from n accepted is released tied none ticks counts chosen =
    let m : State = state_of p in
    let after : State = begun_state (with_base (drop m (rolled_back t) None) t) now in
    let e : state_of (begun q now) ≡ after = ap (λ s. begun_state s now) is in
    let chosen_then : from ≡ choice_of (state_of (begun q now)) = rw (ticks, counts) at chosen in
    rw (ticks, counts) (record {
      step_is = step_accepted m (call.Restore now t None) accepted
          ∙ restore_is m now t
          ∙ ap (λ c. (let x : Stepped = (after, Done (reply.Restored c (length (released_by m (rolled_back t) None)))) in x)) (ap choice_of (sym e) ∙ sym chosen_then)
          ∙ answered (reply.Restored from) after (state_of (begun q now)) (length (released_by m (rolled_back t) None)) n e released;
      tied = record { uses_are = tied.uses_are; retained = tied.retained; tolerable = tied.tolerable; spare = tied.spare; room = tied.room };
      none_ended = none;
    })

pub cancelled_answers : (p q : Parts) (now k n : ℕ) (clock : Moments) (store : Stored) → IsAccepted p (call.Cancel now) → Drops p q (cancelled (state_of p)) n →
    k ≡ dropped_by (state_of p) (cancelled (state_of p)) → clock ≡ record q.clock { latest = max now q.clock.latest } → store ≡ record q.store { base = None } →
    Answers p (record q { clock = clock; store = store; mode = Cancelled }) (call.Cancel now) (reply.Cancelled k n)
unfolding state_of effect drop cancel
cancelled_answers p q now k n clock store accepted d count ticks freed =
    let m : State = state_of p in
    let F : State → State = λ s. record s { latest = max now s.latest; base = None; mode = Cancelled } in
    let after : State = F (drop m (cancelled m) None) in
    rw (ticks, freed) (record {
      step_is = step_accepted m (call.Cancel now) accepted
          ∙ ap (λ c. (let x : Stepped = (after, Done (reply.Cancelled c (length (released_by m (cancelled m) None)))) in x)) (sym count)
          ∙ answered (reply.Cancelled k) after (state_of (ceased q now)) (length (released_by m (cancelled m) None)) n (ap F d.state_is) d.count_is;
      tied = record { uses_are = d.tied.uses_are; retained = d.tied.retained; tolerable = d.tied.tolerable; spare = d.tied.spare; room = d.tied.room };
      none_ended = d.none_ended;
    })
