-- What a tick does to the parts is what it does to the state.
use Rattle.ckpt_core.proofs.Names.{◌≡◌, ℕ, ◌+◌, ◌<◌, ◌≤◌, Bool, true, false, not, ◌&&◌, leb, ltb, List, [], ◌++◌, map, max, length, refl, sym, ap, ◌∙◌, ⊎_elim, arith, None, count_by, filter, Vec}
use Rattle.ckpt_core.proofs.Names.{Global, both_ways, and_parts, false_from_ne_true, length-map, length-filter, length-filter_both, Reply, TickEnd, Answer, Done, IsIn, Record, uses, is_present}
use Rattle.ckpt_core.proofs.Names.{IsIn-append_left, IsIn-append_right, IsIn-append_cases, IsIn-map, IsIn-from_map, IsIn-filter, IsIn-from_filter, IsIn-in_order, IsIn-from_in_order, is_known, Hold}
use Rattle.ckpt_core.proofs.Names.{FailureCount, Moments, gap, Parts, Expiry, with_pins, grouped, answer_wants, may_want_memory, Answers, AreSound, AreTied, IsAccepted, is_noted, records_in, state_of}
use Rattle.ckpt_core.proofs.Names.{IsSound, id_before, IsExpiry, is_late, late_in, Starts, held_at, State, drop, is_checkpoint, is_expired, Stepped, effect, start_or_hold, tick, triggered}
use Rattle.ckpt_core.proofs.Names.{failed_over, dropped_by, count_by-le, Running, new_record, count_by-none, count_by-same, step_accepted, common_steps}
use Rattle.ckpt_ids.specs.declared.reply.Answer.TheVariants.{Refused}
use Rattle.ckpt_core.proofs.Ending.Counts.{few_pending}
use Rattle.ckpt_core.proofs.Triggering.TriggerParts.{limit_bound}
use Rattle.ckpt_core.proofs.Records.Lookups.{AreGroups, count_by-records_of, one_of_number, done_in}
use Rattle.ckpt_core.proofs.Records.GroupLookups.{pending_checkpoints-groups, same_tests}
use Rattle.ckpt_core.proofs.Ending.Drops.{apart_in, numbers, noted-from_IsIn, IsIn-from_noted}
use Rattle.ckpt_core.proofs.Triggering.TickStates.{started, starts_with, starts_done, starts_unused, stepped, tick_fails, tick_goes, tick_starts, ticked}
use Rattle.ckpt_ids.specs.declared.numbers.Kind.TheVariants as kind
use Rattle.ckpt_ids.specs.declared.call.Call.TheVariants as call
use Rattle.ckpt_ids.specs.declared.reply.Reply.TheVariants as reply
use Rattle.ckpt_ids.specs.declared.reply.TickEnd.TheVariants as ends
use Rattle.ckpt_rules.specs.declared.hold.Hold.TheVariants as hold
use Rattle.ckpt_rules.specs.Trigger as trigger

-- the clock

pub seen_state : (p : Parts) (now : ℕ) (c : Moments) → c ≡ record p.clock { latest = max now p.clock.latest } → state_of (record p { clock = c })
    ≡ record (state_of p) { latest = max now p.clock.latest }
unfolding state_of
seen_state p now c e = ap (λ k. state_of (record p { clock = k })) e

pub clock_back : (p q : Parts) (now : ℕ) (c : Moments) → c ≡ record p.clock { latest = max now p.clock.latest } → state_of q ≡ state_of (record p { clock = c }) →
    state_of (record q { clock = p.clock }) ≡ state_of p
unfolding state_of
clock_back p q now c e s = ap {B = State} (λ (m : State). record m { latest = p.clock.latest; due = p.clock.due; completed = p.clock.completed }) s

pub tied_clock : (p : Parts) (c : Moments) → AreTied p → AreTied (record p { clock = c })
tied_clock p c tied = record { uses_are = tied.uses_are; retained = tied.retained; tolerable = tied.tolerable; spare = tied.spare; room = tied.room }

pub tied_failures : (p : Parts) (f : FailureCount) → f.tolerable ≡ p.opened.config.tolerable → AreTied p → AreTied (record p { failures = f })
tied_failures p f same tied = record { uses_are = tied.uses_are; retained = tied.retained; tolerable = same; spare = tied.spare; room = tied.room }

-- a savepoint

pub savepoint_answers : (p q : Parts) (now id : ℕ) (c : Moments) → IsAccepted p (call.Savepoint now) → c ≡ record p.clock { latest = max now p.clock.latest } →
    state_of q ≡ triggered (state_of (record p { clock = c })) kind.Savepoint → id ≡ p.next → AreTied q → q.ended.items ≡ [] → Answers p q (call.Savepoint now) (reply.SavepointTriggered id)
unfolding state_of effect
savepoint_answers p q now id c accepted seen after new tied none = grind (arith, common_steps, seen_state, step_accepted, stepped)

-- a start

pub held_result : (p : Parts) (pending moment : ℕ) (h k : Hold) → moment ≡ max 0 p.clock.latest → h ≡ trigger.hold p.opened.config p.clock.due p.clock.completed moment pending → h ≡ k →
    held_at (state_of p) pending ≡ k
unfolding state_of
held_result p pending moment h k m e is = grind (arith, common_steps)

pub started_state : (p q : Parts) (k : Moments) (moment : ℕ) → state_of q ≡ triggered (state_of p) kind.Checkpoint → moment ≡ max 0 p.clock.latest →
    k ≡ record q.clock { due = moment + gap q.opened.config } → state_of (record q { clock = k }) ≡ started (state_of p)
unfolding state_of triggered
started_state p q k moment after m e = grind (arith, common_steps)

-- a trigger whatever the interval and the pause
pub trigger_answers : (p q : Parts) (now moment id : ℕ) (c k : Moments) → IsAccepted p (call.Trigger now) → c ≡ record p.clock { latest = max now p.clock.latest } →
    state_of q ≡ triggered (state_of (record p { clock = c })) kind.Checkpoint → id ≡ p.next → moment ≡ max 0 q.clock.latest → k ≡ record q.clock { due = moment + gap q.opened.config } → AreTied q →
    q.ended.items ≡ [] → Answers p (record q { clock = k }) (call.Trigger now) (reply.Ticked 0 (ends.Triggered id))
unfolding state_of effect start_or_hold triggered
trigger_answers p q now moment id c k accepted seen after new m e tied none = record {
  step_is = step_accepted (state_of p) (call.Trigger now) accepted ∙ (let seen_by : q.clock.latest ≡ c.latest = ap (λ (s : State). s.latest) after in
      let after_see = started_state (record p { clock = c }) q k moment after (m ∙ ap (max 0) seen_by) e in grind (arith, common_steps, seen_state p now c seen, stepped));
  tied = tied_clock q k tied;
  none_ended = none;
}

pub starts_now : (p q : Parts) (k : Moments) (pending moment id : ℕ) → held_at (state_of p) pending ≡ hold.Go → state_of q ≡ triggered (state_of p) kind.Checkpoint → id ≡ p.next →
    moment ≡ max 0 p.clock.latest → k ≡ record q.clock { due = moment + gap q.opened.config } → Starts (state_of p) pending (state_of (record q { clock = k })) (ends.Triggered id)
unfolding state_of start_or_hold
starts_now p q k pending moment id go after new m e = λ expired. rw (go, ← started_state p q k moment after m e, ← new)

-- what expires

abbrev AreGrouped : Parts → Type 0
AreGrouped p = AreGroups p.pending p.store.checkpoints p.store.savepoints

abbrev pub is_old : ℕ → ℕ → Record → Bool
is_old timeout moment r = leb (r.started + timeout) moment

-- what is old has expired
pub old_same : (p : Parts) (timeout moment : ℕ) → timeout ≡ p.opened.config.timeout → moment ≡ max 0 p.clock.latest → (r : Record) →
    leb (r.started + p.opened.config.timeout) p.clock.latest ≡ is_old timeout moment r
old_same p timeout moment t m r = grind (arith, common_steps)

-- a count over pending records alone
pub counted_in_pending : (p : Parts) (t u : Record → Bool) → AreGrouped p → ((r : Record) → t (with_pins p.registry r) ≡ t r) → ((r : Record) → r.done ≡ true → t r ≡ false) →
    ((r : Record) → r.done ≡ false → t r ≡ u r) → count_by t (records_in p) ≡ count_by u p.pending
counted_in_pending p t u groups same none agree =
    let all : count_by t (records_in p) ≡ count_by t p.pending + (count_by t p.store.checkpoints + count_by t p.store.savepoints) =
    count_by-records_of t p.registry p.pending p.store.checkpoints p.store.savepoints same in
    let a : count_by t p.store.checkpoints ≡ 0 = count_by-none t p.store.checkpoints (λ r h. none r (groups.checkpoints_done r h).0) in
    omega (arith, all, a, count_by-none t p.store.savepoints (λ r h. none r (groups.savepoints_done r h).0), count_by-same t u p.pending (λ r h. agree r (groups.not_done r h)))

pub expired_counted : (p : Parts) (timeout moment : ℕ) → AreGrouped p → timeout ≡ p.opened.config.timeout → moment ≡ max 0 p.clock.latest →
    dropped_by (state_of p) (is_expired (state_of p) p.clock.latest) ≡ length (filter (is_old timeout moment) p.pending)
unfolding state_of
expired_counted p timeout moment groups t m =
    counted_in_pending p (is_expired (state_of p) p.clock.latest) (is_old timeout moment) groups (λ r. refl) (λ r d. ap (λ b. not b && leb (r.started + p.opened.config.timeout) p.clock.latest) d)
    (λ r d. ap (λ b. not b && leb (r.started + p.opened.config.timeout) p.clock.latest) d ∙ old_same p timeout moment t m r) ∙ counted_length (is_old timeout moment) p.pending
  where
    counted_length : (q : Record → Bool) (rs : List Record) → count_by q rs ≡ length (filter q rs)
    counted_length q rs = sym (length-filter q rs)

pub late_counted : (p : Parts) (timeout moment : ℕ) → AreGrouped p → timeout ≡ p.opened.config.timeout → moment ≡ max 0 p.clock.latest →
    count_by (is_late (state_of p)) (records_in p) ≡ count_by (λ r. is_old timeout moment r && is_checkpoint r) p.pending
unfolding state_of
late_counted p timeout moment groups t m = grind (arith, common_steps, counted_in_pending, old_same, started)

-- the noted records are those that pass the test
pub noted_are : (p : Parts) (q t : Record → Bool) → IsSound (state_of p) → AreGrouped p → ((r : Record) → t (with_pins p.registry r) ≡ t r) → ((r : Record) → r.done ≡ true → t r ≡ false) →
    ((r : Record) → r.done ≡ false → t r ≡ q r) → (r : Record) → IsIn r (records_in p) → t r ≡ is_noted (numbers (filter q p.pending)) r
noted_are p q t sound groups same none agree r h = let of_pending : List Record = map (with_pins p.registry) p.pending in let of_done : List Record = p.store.checkpoints ++ p.store.savepoints in
    let there : IsIn r (of_pending ++ of_done) = IsIn-from_in_order id_before r (of_pending ++ of_done) h in
    same_tests (t r) (is_noted (numbers (filter q p.pending)) r) (λ e. ⊎_elim (λ (k : IsIn r of_pending). let s = IsIn-from_map (with_pins p.registry) r p.pending k in
    let passes : q s.0 ≡ true = sym (ap t s.2 ∙ same s.0 ∙ agree s.0 (groups.not_done s.0 s.1)) ∙ e in
    noted-from_IsIn r s.0 (filter q p.pending) (IsIn-filter q s.0 p.pending s.1 passes) (ap (λ w. w.id) s.2)) (λ (k : IsIn r of_done). absurd (both_ways (t r) (none r (done_in groups r k)) e))
    (IsIn-append_cases r of_pending of_done there)) (λ n. let w = IsIn-from_noted r (filter q p.pending) n in let v = IsIn-from_filter q w.0 p.pending w.1 in
    let its : IsIn (with_pins p.registry w.0) (of_pending ++ of_done) = IsIn-append_left (with_pins p.registry w.0) of_pending of_done (IsIn-map (with_pins p.registry) w.0 p.pending v.0) in
    ap t (one_of_number (of_pending ++ of_done) (apart_in p sound) r (with_pins p.registry w.0) there its w.2) ∙ same w.0 ∙ agree w.0 (groups.not_done w.0 v.0) ∙ v.1)

pub noted_are_expired : (p : Parts) (timeout moment : ℕ) → IsSound (state_of p) → AreGrouped p → timeout ≡ p.opened.config.timeout → moment ≡ max 0 p.clock.latest → (r : Record) →
    IsIn r (records_in p) → is_expired (state_of p) p.clock.latest r ≡ is_noted (numbers (filter (is_old timeout moment) p.pending)) r
unfolding state_of
noted_are_expired p timeout moment sound groups t m =
    noted_are p (is_old timeout moment) (is_expired (state_of p) p.clock.latest) sound groups (λ r. refl) (λ r d. ap (λ b. not b && leb (r.started + p.opened.config.timeout) p.clock.latest) d)
    (λ r d. ap (λ b. not b && leb (r.started + p.opened.config.timeout) p.clock.latest) d ∙ old_same p timeout moment t m r)

-- the next record's number is not among the noted ones
next_not_noted : (p : Parts) (q : Record → Bool) → IsSound (state_of p) → (r : Record) → r.id ≡ p.next → is_noted (numbers (filter q p.pending)) r ≡ false
unfolding state_of
next_not_noted p q sound r next = false_from_ne_true (is_noted (numbers (filter q p.pending)) r) (λ n. let w = IsIn-from_noted r (filter q p.pending) n in
    let v = IsIn-from_filter q w.0 p.pending w.1 in
    let here : IsIn (with_pins p.registry w.0) (grouped p.registry p.pending p.store.checkpoints p.store.savepoints) = IsIn-append_left (with_pins p.registry w.0)
    (map (with_pins p.registry) p.pending) (p.store.checkpoints ++ p.store.savepoints) (IsIn-map (with_pins p.registry) w.0 p.pending v.0) in
    let lt : w.0.id < p.next = sound.records.below_next (with_pins p.registry w.0) (IsIn-in_order id_before (with_pins p.registry w.0)
    (grouped p.registry p.pending p.store.checkpoints p.store.savepoints) here) in omega (arith, sym next ∙ w.2, lt))

-- after the start

pub unknown_after : (p q : Parts) (pending : ℕ) (end : TickEnd) → IsSound (state_of p) → AreTied q → Starts (state_of p) pending (state_of q) end → (f : ℕ) → is_present q.registry f ≡ true →
    is_known q.outbox f ≡ false
unfolding state_of
unknown_after p q pending end sound tied starts f h = let used : is_present (uses (records_in q)) f ≡ true = ap (λ us. is_present us f) (sym tied.uses_are) ∙ h in
    false_from_ne_true (is_known q.outbox f) (λ e. both_ways (is_present (uses (records_in q)) f) (starts_unused (state_of p) pending (state_of q) end sound starts f e) used)

pub done_not_dropped : (p q : Parts) (ids : List ℕ) (pending : ℕ) (end : TickEnd) → ((r : Record) → IsIn r (records_in p) → is_expired (state_of p) p.clock.latest r ≡ is_noted ids r) →
    AreGroups q.pending q.store.checkpoints q.store.savepoints → Starts (state_of p) pending (state_of q) end → (r : Record) → IsIn r (q.store.checkpoints ++ q.store.savepoints) →
    is_noted ids r ≡ false
unfolding state_of
done_not_dropped p q ids pending end agree groups starts r h = let done : r.done ≡ true = done_in groups r h in
    let there : IsIn r (records_in q) = IsIn-in_order id_before r (grouped q.registry q.pending q.store.checkpoints q.store.savepoints)
    (IsIn-append_right r (map (with_pins q.registry) q.pending) (q.store.checkpoints ++ q.store.savepoints) h) in
    sym (agree r (starts_done (state_of p) pending (state_of q) end starts r there done)) ∙ ap (λ b. not b && leb (r.started + p.opened.config.timeout) p.clock.latest) done

-- the tick

pub tick_answers : (p q : Parts) (now : ℕ) (c : Moments) (r : Reply) → IsAccepted p (call.Tick now) → c ≡ record p.clock { latest = max now p.clock.latest } →
    tick (state_of (record p { clock = c })) ≡ stepped (state_of q) (Done r) → AreTied q → q.ended.items ≡ [] → Answers p q (call.Tick now) r
unfolding state_of effect
tick_answers p q now c r accepted seen after tied none = grind (arith, common_steps, seen_state, step_accepted)

pub tick_wants_memory : (p : Parts) (now : ℕ) (c : Moments) → IsAccepted p (call.Tick now) → c ≡ record p.clock { latest = max now p.clock.latest } →
    answer_wants (call.Tick 0) (tick (state_of (record p { clock = c }))).1 ≡ true → may_want_memory (state_of p) (call.Tick now) ≡ true
unfolding state_of effect
tick_wants_memory p now c accepted seen wants = ap (λ (s : Stepped). answer_wants (call.Tick now) s.1) (step_accepted (state_of p) (call.Tick now) accepted ∙ ap tick (sym (seen_state p now c seen)))
    ∙ same_wants (tick (state_of (record p { clock = c }))).1 ∙ wants
  where
    same_wants : (a : Answer) → answer_wants (call.Tick now) a ≡ answer_wants (call.Tick 0) a
    same_wants (Done r) = refl
    same_wants (Refused why) = refl

-- the expiry

pub late_at_most : (p : Parts) (timeout moment late : ℕ) → late ≡ count_by (λ r. is_old timeout moment r && is_checkpoint r) p.pending → late ≤ count_by is_checkpoint p.pending
late_at_most p timeout moment late e = grind (arith, common_steps, and_parts, count_by-le)

pub few_checkpoints : (p : Parts) → AreSound p → AreGrouped p → count_by is_checkpoint p.pending ≤ 64
unfolding state_of
few_checkpoints p sound groups = grind (arith, common_steps, limit_bound, pending_checkpoints-groups)

pub few_expired : (p : Parts) (q : Record → Bool) → AreSound p → AreGrouped p → length (filter q p.pending) ≤ 1064
few_expired p q sound groups = omega (arith, length-filter_both q (λ r. not (q r)) (λ r. refl) p.pending, few_pending p sound groups)

pub few_failures : (p : Parts) → AreSound p → p.mode ≡ Running → p.failures.number ≤ 1000
unfolding state_of
few_failures p sound running = omega (arith, sound.sound.failures running, sound.sound.config.tolerable_to)

-- what is noted and counted is what has expired
pub expiry_is : (p : Parts) (ended : Vec ℕ Global) (e : Expiry) (timeout moment late : ℕ) → AreSound p → AreGrouped p → timeout ≡ p.opened.config.timeout → moment ≡ max 0 p.clock.latest →
    ended.items ≡ numbers (filter (is_old timeout moment) p.pending) → late ≡ count_by (λ r. is_old timeout moment r && is_checkpoint r) p.pending → e.expired ≡ length ended.items →
    e.left + late ≡ count_by is_checkpoint p.pending → e.failures ≡ record p.failures { number = p.failures.number + late } →
    e.intolerable ≡ (ltb 0 late && ltb e.failures.tolerable e.failures.number) → IsExpiry (record p { ended = ended }) e
unfolding state_of
expiry_is p ended e timeout moment late sound groups t m items l count left failures intolerable =
    let all : late ≡ late_in (state_of p) = l ∙ sym (late_counted p timeout moment groups t m) in
    let config : e.failures.tolerable ≡ p.opened.config.tolerable = ap (λ (x : FailureCount). x.tolerable) failures ∙ sound.tied.tolerable in record {
      expired = count ∙ ap length items ∙ length-map (filter (is_old timeout moment) p.pending) (λ r. r.id) ∙ sym (expired_counted p timeout moment groups t m);
      left = ap (λ n. e.left + n) (sym all) ∙ left ∙ sym (pending_checkpoints-groups p.registry p.pending p.store.checkpoints p.store.savepoints groups);
      failures = failures ∙ ap (λ n. record p.failures { number = p.failures.number + n }) all;
      intolerable = intolerable ∙ ap (λ n. ltb 0 n && ltb e.failures.tolerable e.failures.number) all ∙ ap (λ n. ltb 0 (late_in (state_of p)) && ltb n e.failures.number) config;
      noted = λ r h. noted_are_expired p timeout moment sound.sound groups t m r h ∙ ap (λ ids. is_noted ids r) (sym items);
      not_next = λ r next. ap (λ ids. is_noted ids r) items ∙ next_not_noted p (is_old timeout moment) sound.sound r next;
    }

number_is : (p : Parts) (e : Expiry) → IsExpiry p e → e.failures.number ≡ p.failures.number + late_in (state_of p)
number_is p e is = ap (λ (x : FailureCount). x.number) is.failures

-- too many checkpoints were late
pub expiry_fails : (p f : Parts) (ended : Vec ℕ Global) (e : Expiry) → IsExpiry p e → e.intolerable ≡ true → state_of f ≡ failed_over (state_of (record p { ended = ended })) →
    tick (state_of p) ≡ stepped (state_of (record f { failures = e.failures })) (ticked e.expired ends.Failed)
unfolding state_of
expiry_fails p f ended e is many after = grind (arith, common_steps, number_is, stepped, tick_fails, ticked)

-- what is left goes on
expiry_leaves : (p : Parts) (e : Expiry) → IsExpiry p e → e.intolerable ≡ false → tick (state_of p) ≡ start_or_hold (drop (record (state_of p) { failures = e.failures.number })
    (is_expired (state_of p) p.clock.latest) None) e.expired (held_at (state_of p) e.left)
unfolding state_of
expiry_leaves p e is few = tick_goes (state_of p) e.failures.number e.expired e.left (number_is p e is) is.expired is.left (sym is.intolerable ∙ few)

pub expiry_wants : (p : Parts) (e : Expiry) → IsExpiry p e → e.intolerable ≡ false → held_at (state_of p) e.left ≡ hold.Go → answer_wants (call.Tick 0) (tick (state_of p)).1 ≡ true
unfolding start_or_hold
expiry_wants p e is few go = let after : State = drop (record (state_of p) { failures = e.failures.number }) (is_expired (state_of p) p.clock.latest) None in
    ap (λ (s : Stepped). answer_wants (call.Tick 0) s.1) (expiry_leaves p e is few ∙ ap (start_or_hold after e.expired) go)

pub expiry_goes : (p s q : Parts) (e : Expiry) (end : TickEnd) → IsSound (state_of p) → IsExpiry p e → e.intolerable ≡ false → Starts (state_of p) e.left (state_of s) end →
    s.ended.items ≡ p.ended.items → state_of q ≡ drop (state_of s) (is_noted s.ended.items) None → tick (state_of p) ≡ stepped (state_of (record q { failures = e.failures })) (ticked e.expired end)
unfolding state_of
expiry_goes p s q e end sound is few starts noted after = tick_starts (state_of p) (state_of s) e.failures.number e.expired e.left (is_noted p.ended.items) end sound
    (number_is p e is) is.expired is.left (sym is.intolerable ∙ few) is.noted (is.not_next (new_record (state_of p) kind.Checkpoint) refl) starts
    ∙ ap {B = Stepped} (λ (k : State). stepped (record k { failures = e.failures.number }) (ticked e.expired end)) (ap (λ xs. drop (state_of s) (is_noted xs) None) (sym noted) ∙ sym after)

-- the configuration stays

tolerable_is : (p : Parts) (e : Expiry) → AreTied p → IsExpiry p e → e.failures.tolerable ≡ p.opened.config.tolerable
tolerable_is p e tied is = ap (λ (x : FailureCount). x.tolerable) is.failures ∙ tied.tolerable

pub failed_tolerable : (p f : Parts) (ended : Vec ℕ Global) (e : Expiry) → AreTied p → IsExpiry p e → state_of f ≡ failed_over (state_of (record p { ended = ended })) →
    e.failures.tolerable ≡ f.opened.config.tolerable
unfolding state_of failed_over drop
failed_tolerable p f ended e tied is after = tolerable_is p e tied is ∙ ap (λ (m : State). m.opening.config.tolerable) (sym after)

pub started_tolerable : (p s q : Parts) (e : Expiry) (end : TickEnd) → AreTied p → IsExpiry p e → Starts (state_of p) e.left (state_of s) end →
    state_of q ≡ drop (state_of s) (is_noted s.ended.items) None → e.failures.tolerable ≡ q.opened.config.tolerable
unfolding state_of drop triggered
started_tolerable p s q e end tied is starts after =
    let started_config : s.opened.config.tolerable ≡ p.opened.config.tolerable = starts_with (λ m. m.opening.config.tolerable ≡ p.opened.config.tolerable) (state_of p) e.left
    (state_of s) end starts refl refl in tolerable_is p e tied is ∙ sym started_config ∙ ap (λ (m : State). m.opening.config.tolerable) (sym after)
