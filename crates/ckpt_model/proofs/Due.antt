-- When a tick may trigger, as far as the interval and the pause decide.
use Rattle.ckpt_model.proofs.Names.{◌≡◌, ℕ, ◌+◌, ◌<◌, ◌≤◌, max, Bool, false, ◌&&◌, ltb, refl, arith, Option, None, count_by, ⊤, cond_both, Tick, Refusal, Answer, Refused, Done, Ticked, Configuration}
use Rattle.ckpt_model.proofs.Names.{Record, Hold, Interval, AtOnce, Pause, Go, hold, pause_ends, NoneIsEarlyFrom, NoneTriggersBefore, next_due, triggered_one, was_early, State, drop, is_checkpoint}
use Rattle.ckpt_model.proofs.Names.{is_expired, Stepped, after_expiry, dropped_by, effect, failed_over, pending_checkpoints, start_or_hold, step, tick, common_steps}
use Rattle.ckpt_ids.specs.declared.reply.TickEnd.TheVariants as end
use Rattle.ckpt_model.proofs.Answering.StepCases.{step_by}

-- what each hold says about the moment
abbrev Tells : ℕ → ℕ → ℕ → Hold → Type 0
Tells due ends t Interval = t < due
Tells due ends t AtOnce = ⊤
Tells due ends t Pause = t < ends
Tells due ends t Go = (due ≤ t) × (ends ≤ t)

hold_tells : (c : Configuration) (due : ℕ) (completed : Option ℕ) (t pending : ℕ) → Tells due (pause_ends c completed) t (hold c due completed t pending)
hold_tells c due completed t pending = grind (arith, common_steps)

none_starts : (m : State) (expired due ends t : ℕ) (h : Hold) → Tells due ends t h → t < max due ends → triggered_one (start_or_hold m expired h).1 ≡ false
unfolding start_or_hold
none_starts m expired due ends t h h6 h7 = grind (arith, common_steps)

none_is_early : (m : State) (expired due ends t : ℕ) (h : Hold) → Tells due ends t h → max due ends ≤ t → was_early (start_or_hold m expired h).1 ≡ false
unfolding start_or_hold
none_is_early m expired due ends t h h6 h7 = grind (arith, common_steps)

-- a tick is refused, fails the job over, or starts a checkpoint or holds it back
tick_is : (m : State) (now : ℕ) (P : Answer → Type 0) → ((why : Refusal) → P (Refused why)) → ((expired : ℕ) → P (Done (Ticked expired end.Failed)))
    → ((n : State) (expired : ℕ) (h : Hold) → Tells m.due (pause_ends m.opening.config m.completed) (max now m.latest) h → P (start_or_hold n expired h).1)
    → P (step m (Tick now)).1
unfolding effect tick after_expiry drop
tick_is m now P refused failed starts =
    let t : ℕ = max now m.latest in
    let seen : State = record m { latest = t } in
    let expired : Record → Bool = is_expired seen t in
    let late : ℕ = count_by (λ r. expired r && is_checkpoint r) m.records in
    let counted : State = record seen { failures = m.failures + late } in
    let rest : State = drop counted expired None in
    step_by m (Tick now) (λ s. P s.1) (λ why _. refused why) (λ _.
    cond_both (ltb 0 late && ltb m.opening.config.tolerable (m.failures + late)) (failed_over counted, _) (after_expiry rest (dropped_by seen expired)) (λ (s : Stepped). P s.1)
    (λ _. failed (dropped_by seen expired)) (λ _. starts rest (dropped_by seen expired) _ (hold_tells m.opening.config m.due m.completed t (pending_checkpoints rest))))

pub none_before : (m : State) → NoneTriggersBefore m (next_due m)
none_before m now before =
    tick_is m now (λ a. triggered_one a ≡ false) (λ why. refl) (λ expired. refl)
    (λ n expired h tells. none_starts n expired m.due (pause_ends m.opening.config m.completed) (max now m.latest) h tells before)

pub none_early : (m : State) → NoneIsEarlyFrom m (next_due m)
none_early m now from =
    tick_is m now (λ a. was_early a ≡ false) (λ why. refl) (λ expired. refl)
    (λ n expired h tells. none_is_early n expired m.due (pause_ends m.opening.config m.completed) (max now m.latest) h tells from)
