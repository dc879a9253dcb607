-- A Trigger does what a tick does that triggers, if nothing expires in that.
use Rattle.ckpt_model.proofs.Names.{common_steps, arith, ◌≡◌, ℕ, ◌+◌, ◌<◌, max, Bool, true, false, not, ◌&&◌, ltb, cond, List, [], ◌∷◌, ◌++◌, map, inl, refl, ap, sym, ◌∙◌, both_ways, cases_Bool, count_by, count_by-none, filter, filter-all}
use Rattle.ckpt_model.proofs.Names.{append-nil, Option, None, list_any, list_any-from_IsIn, IsIn, Record, uses, is_present, released, Trigger, Tick, Hold, Go, hold, limit, State, is_checkpoint, is_expired, drop, refusal}
use Rattle.ckpt_model.proofs.Names.{Stepped, dropped_by, pending_checkpoints, start_or_hold, after_expiry, failed_over, tick, Done, Ticked, effect, step, triggered_one}
use Rattle.ckpt_ids.specs.declared.reply.TickEnd.TheVariants as end
use Rattle.ckpt_model.specs.Settings.{IsAsTick}
use Rattle.ckpt_model.proofs.Records.{map_itself, held-from_released, after-from_released}
use Rattle.ckpt_model.proofs.Answering.Accepted.{IsAcceptedTrigger, accepted_tick}
use Rattle.ckpt_model.proofs.Answering.StepCases.{step_accepted, step_by, not_refused-from_answer}
use Rattle.ckpt_model.proofs.Soundness.{fewer-from_go}

-- a list with no element is empty
none_in : (xs : List ℕ) → ((f : ℕ) → IsIn f xs → ⊥) → xs ≡ []
none_in [] none = refl
none_in (x ∷ xs) none = absurd (none x (inl refl))

-- if all records stay, nothing is released
none_released : (rs : List Record) → released (uses rs) (uses rs) ≡ []
none_released rs = none_in _ (λ f h. both_ways (is_present (uses rs) f) (after-from_released f (uses rs) (uses rs) h) (held-from_released f rs (uses rs) h))

-- a drop of none leaves the state
none_dropped : (m : State) (dropped : Record → Bool) → ((r : Record) → IsIn r m.records → dropped r ≡ false) → drop m dropped None ≡ m
unfolding drop
none_dropped m dropped none =
    let same : map (λ r. r) (filter (λ r. not (dropped r)) m.records) ≡ m.records =
    ap (map (λ r. r)) (filter-all (λ r. not (dropped r)) m.records (λ r h. ap not (none r h))) ∙ map_itself (λ r. r) m.records (λ r h. refl) in
    let at : List Record → State = λ (rs : List Record). record m { records = rs; waiting = m.waiting ++ released (uses m.records) (uses rs) } in
    let still : List ℕ → State = λ (ws : List ℕ). record m { waiting = ws } in
    ap at same ∙ ap still (ap (λ (fs : List ℕ). m.waiting ++ fs) (none_released m.records) ∙ append-nil m.waiting)

-- a tick in which nothing expires starts a checkpoint, or holds it back
quiet_tick : (m : State) → ((r : Record) → IsIn r m.records → is_expired m m.latest r ≡ false)
    → tick m ≡ start_or_hold m 0 (hold m.opening.config m.due m.completed m.latest (pending_checkpoints m))
unfolding tick after_expiry
quiet_tick m none =
    let late : count_by (λ r. is_expired m m.latest r && is_checkpoint r) m.records ≡ 0 = count_by-none _ m.records (λ r h. grind (arith, common_steps, none r h)) in
    let gone : dropped_by m (is_expired m m.latest) ≡ 0 = count_by-none _ m.records none in
    let ended : ℕ → ℕ → Stepped = λ (n e : ℕ).
    let counted : State = record m { failures = m.failures + n } in
    cond (ltb 0 n && ltb m.opening.config.tolerable (m.failures + n)) (failed_over counted, Done (Ticked e end.Failed)) (after_expiry (drop counted (is_expired m m.latest) None) e) in
    let same : m.failures + 0 ≡ m.failures = omega arith in
    let counted_as : ℕ → Stepped = λ (k : ℕ). after_expiry (drop (record m { failures = k }) (is_expired m m.latest) None) 0 in
    let after : State → Stepped = λ (k : State). after_expiry k 0 in
    ap (λ (n : ℕ). ended n (dropped_by m (is_expired m m.latest))) late ∙ ap (ended 0) gone ∙ ap counted_as same ∙ ap after (none_dropped m (is_expired m m.latest) none)

-- what is held back triggers none
goes : (m : State) (expired : ℕ) (h : Hold) → triggered_one (start_or_hold m expired h).1 ≡ true → h ≡ Go
unfolding start_or_hold
goes m expired h e = grind (arith, common_steps, both_ways)

-- no row refuses a Trigger that a tick could make
not_refused-trigger : (m : State) (now : ℕ) → IsAcceptedTrigger m now → pending_checkpoints m < limit m.opening.config → refusal m (Trigger now) ≡ None
unfolding refusal
not_refused-trigger m now a few = grind (arith, common_steps, a.moment, a.running, a.room)

-- the law
pub as_tick : (m : State) (now : ℕ) → IsAsTick m now
unfolding effect
as_tick m now quiet did =
    let n : State = record m { latest = max now m.latest } in
    let accepted : refusal m (Tick now) ≡ None = not_refused-from_answer triggered_one (λ why. refl) m (Tick now) did in
    let none : (r : Record) → IsIn r n.records → is_expired n n.latest r ≡ false = λ r h.
    grind (arith, common_steps, list_any-from_IsIn (is_expired m (max now m.latest)) r m.records h, cases_Bool (is_expired m (max now m.latest) r), both_ways) in
    let made : step m (Tick now) ≡ start_or_hold n 0 (hold n.opening.config n.due n.completed n.latest (pending_checkpoints n)) = step_accepted m (Tick now) accepted ∙ quiet_tick n none in
    let go = goes n 0 (hold n.opening.config n.due n.completed n.latest (pending_checkpoints n)) (ap (λ (x : Stepped). triggered_one x.1) (sym made) ∙ did) in
    let few = fewer-from_go n.opening.config n.due n.completed n.latest (pending_checkpoints n) go in
    step_accepted m (Trigger now) (not_refused-trigger m now (accepted_tick m now accepted) few) ∙ ap (start_or_hold n 0) (sym go) ∙ sym made
