-- What a tick does to a state: a checkpoint is started first, and what has expired is dropped after.
use Rattle.ckpt_core.proofs.Names.{◌≡◌, ℕ, ◌+◌, ◌<◌, Bool, true, false, not, ◌&&◌, cond, ltb, leb, List, [], ◌∷◌, ◌++◌, refl, sym, ap, subst, ◌∙◌, ◌⊎◌, inl, inr, ⊎_elim, arith, None, count_by, filter}
use Rattle.ckpt_core.proofs.Names.{both_ways, and_parts, not_from_false, lt-ltb, and_from, Ticked, TickEnd, Answer, Done, IsIn, IsInOrder, Record, Use, uses, uses_of, is_present, released}
use Rattle.ckpt_core.proofs.Names.{numbers_in_order, IsIn-append_left, IsIn-append_cases, IsIn-flat_map, IsIn-from_flat_map, IsInOrder-append, same_from_members, IsIn-from_test, Hold, gap, State}
use Rattle.ckpt_core.proofs.Names.{is_checkpoint, is_pending, is_expired, drop, kept, unpinned, pins_now, in_outbox, IsSound, id_before, is_late, late_in, Starts, held_at, Stepped, triggered}
use Rattle.ckpt_core.proofs.Names.{start_or_hold, after_expiry, tick, failed_over, pending_checkpoints, dropped_by, count_by-filter, count_by-cons, count_by-same, map_itself, IsHeld, Holds}
use Rattle.ckpt_core.proofs.Names.{IsHeld-from_present, present-from_IsHeld, Holds-from_use, ascending-released, before-from_released, after-from_released, IsIn-released, IsSoundOutbox, new_record}
use Rattle.ckpt_core.proofs.Names.{outbox_triggered, held-from_pins, pins_stay, pins_same, only_one, common_steps}
use Rattle.ckpt_core.proofs.Ending.Drops.{drop_same}
use Rattle.ckpt_core.proofs.Records.GroupLookups.{same_tests}
use Rattle.ckpt_ids.specs.declared.numbers.Kind.TheVariants as kind
use Rattle.ckpt_ids.specs.declared.reply.TickEnd.TheVariants as ends
use Rattle.ckpt_rules.specs.declared.hold.Hold.TheVariants as hold

-- the records after a trigger and a drop

abbrev keeps : (Record → Bool) → Record → Bool
keeps dropped r = not (dropped r)

kept-append : (b : Record → Bool) (rs : List Record) (x : Record) → b x ≡ false → kept b None (rs ++ x ∷ []) ≡ kept b None rs ++ x ∷ []
kept-append b rs x e = grind (arith, common_steps)

-- a file that the new record pins is held by what is kept
pin_kept : (m : State) (b : Record → Bool) (f : ℕ) → IsSound m → ((r : Record) → IsIn r m.records → r.done ≡ true → b r ≡ false) → IsIn f (pins_now m) → IsHeld f (kept b None m.records)
unfolding drop
pin_kept m b f s spared h = held-from_pins (drop m b None) f (rw (pins_stay m (drop m b None) (keeps b) s refl refl (λ r k d. not_from_false (b r) (spared r k d))) h)

pinned : (m : State) (f : ℕ) (r x : Record) → IsIn r (x ∷ []) → x ≡ new_record m kind.Checkpoint → Holds f r → IsIn f (pins_now m)
pinned m f r x h is held = of_new (rw (only_one r x h ∙ is) at held)
  where
    of_new : Holds f (new_record m kind.Checkpoint) → IsIn f (pins_now m)
    of_new (inl h) = absurd h.1
    of_new (inr h) = h

-- so it is not released, nor does it keep another from being released
released_with_pins : (m : State) (b : Record → Bool) (x : Record) → IsSound m → ((r : Record) → IsIn r m.records → r.done ≡ true → b r ≡ false) → x ≡ new_record m kind.Checkpoint →
    released (uses (m.records ++ x ∷ [])) (uses (kept b None m.records ++ x ∷ [])) ≡ released (uses m.records) (uses (kept b None m.records))
released_with_pins m b x s spared is =
    let left : List Record = kept b None m.records in let before : List Use = uses m.records in let after : List Use = uses left in let before' : List Use = uses (m.records ++ x ∷ []) in
    let after' : List Use = uses (left ++ x ∷ []) in let held : (f : ℕ) (r : Record) → IsIn r (x ∷ []) → Holds f r → IsHeld f left = λ f r j h. pin_kept m b f s spared (pinned m f r x j is h) in
    let still : (f : ℕ) → is_present after' f ≡ is_present after f = λ f. same_tests (is_present after' f) (is_present after f) (λ k. let r = IsHeld-from_present f (left ++ x ∷ []) k in
    present-from_IsHeld f left (⊎_elim (λ (j : IsIn r.0 left). (r.0, j, r.2)) (λ (j : IsIn r.0 (x ∷ [])). held f r.0 j r.2) (IsIn-append_cases r.0 left (x ∷ []) r.1))) (λ k.
    let r = IsHeld-from_present f left k in present-from_IsHeld f (left ++ x ∷ []) (r.0, IsIn-append_left r.0 left (x ∷ []) r.1, r.2)) in
    let to : (f : ℕ) → IsIn f (released before' after') → IsIn f (released before after) = λ f h. let u = before-from_released f before' after' h in
    let gone : is_present after f ≡ false = sym (still f) ∙ after-from_released f before' after' h in let r = IsIn-from_flat_map uses_of u.0 (m.records ++ x ∷ []) u.1 in
    ⊎_elim (λ (k : IsIn r.0 m.records). IsIn-released f u.0 before after (IsIn-flat_map uses_of r.0 u.0 m.records k r.2) (sym u.2) gone) (λ (k : IsIn r.0 (x ∷ [])).
    let its : Holds f r.0 = rw (sym u.2) at (Holds-from_use u.0 r.0 r.2) in
    absurd (both_ways (is_present after f) gone (present-from_IsHeld f left (held f r.0 k its)))) (IsIn-append_cases r.0 m.records (x ∷ []) r.1) in
    let back : (f : ℕ) → IsIn f (released before after) → IsIn f (released before' after') = λ f h. let u = before-from_released f before after h in
    let r = IsIn-from_flat_map uses_of u.0 m.records u.1 in let there : IsIn u.0 before' = IsIn-flat_map uses_of r.0 u.0 (m.records ++ x ∷ []) (IsIn-append_left r.0 m.records (x ∷ []) r.1) r.2 in
    IsIn-released f u.0 before' after' there (sym u.2) (still f ∙ after-from_released f before after h) in
    same_from_members numbers_in_order (released before' after') (released before after) (ascending-released before' after') (ascending-released before after) to back

-- a drop after a trigger is a trigger after the drop, if no done record is dropped
pub drop_triggered : (m : State) (b : Record → Bool) (due : ℕ) → IsSound m → ((r : Record) → IsIn r m.records → r.done ≡ true → b r ≡ false) → b (new_record m kind.Checkpoint) ≡ false →
    drop (record (triggered m kind.Checkpoint) { due = due }) b None ≡ record (triggered (drop m b None) kind.Checkpoint) { due = due }
unfolding drop triggered
drop_triggered m b due s spared stays = let x : Record = new_record m kind.Checkpoint in let left : List Record = kept b None m.records in
    let same : pins_now (drop m b None) ≡ pins_now m = pins_stay m (drop m b None) (keeps b) s refl refl (λ r k d. not_from_false (b r) (spared r k d)) in
    rw (kept-append b m.records x stays, released_with_pins m b x s spared refl, ← same)

-- the state after a start

abbrev pub started : State → State
started m = record (triggered m kind.Checkpoint) { due = m.latest + gap m.opening.config }

abbrev pub ticked : ℕ → TickEnd → Answer
ticked expired end = Done (Ticked expired end)

abbrev pub stepped : State → Answer → Stepped
stepped m answer = (m, answer)

state_first : (m k : State) (a c : Answer) → stepped m a ≡ stepped k c → m ≡ k
state_first m k a c e = ap (λ p. p.0) e

answer_second : (m k : State) (a c : Answer) → stepped m a ≡ stepped k c → a ≡ c
answer_second m k a c e = ap (λ p. p.1) e

started_as : (m : State) (expired : ℕ) (h : Hold) (after : State) (end : TickEnd) → start_or_hold m expired h ≡ (after, ticked expired end) → (after ≡ m) ⊎ (after ≡ started m)
unfolding start_or_hold
started_as m expired hold.Interval after end e = inl (sym (state_first m after (ticked expired ends.HeldInterval) (ticked expired end) e))
started_as m expired hold.AtOnce after end e = inl (sym (state_first m after (ticked expired ends.HeldAtOnce) (ticked expired end) e))
started_as m expired hold.Pause after end e = inl (sym (state_first m after (ticked expired ends.HeldPause) (ticked expired end) e))
started_as m expired hold.Go after end e = inr (sym (state_first (started m) after (ticked expired (ends.Triggered m.next)) (ticked expired end) e))

pub starts_as : (m : State) (pending : ℕ) (after : State) (end : TickEnd) → Starts m pending after end → (after ≡ m) ⊎ (after ≡ started m)
starts_as m pending after end starts = started_as m 0 (held_at m pending) after end (starts 0)

started_outbox : (m : State) → IsSound m → IsSoundOutbox (started m).records m.waiting m.taken
unfolding triggered
started_outbox m s = outbox_triggered m kind.Checkpoint s

started_in_order : (m : State) → IsSound m → IsInOrder id_before (started m).records
unfolding triggered
started_in_order m s = IsInOrder-append id_before m.records (new_record m kind.Checkpoint ∷ []) s.records.in_order (tt, tt)
    (λ x y h k. rw (only_one y (new_record m kind.Checkpoint) k) (lt-ltb x.id m.next (s.records.below_next x h)))

-- what holds of the state and of the started one
pub starts_with : (P : State → Type 0) (m : State) (pending : ℕ) (after : State) (end : TickEnd) → Starts m pending after end → P m → P (started m) → P after
starts_with P m pending after end starts here there = ⊎_elim (λ (e : after ≡ m). subst P (sym e) here) (λ (e : after ≡ started m). subst P (sym e) there) (starts_as m pending after end starts)

pub starts_in_order : (m : State) (pending : ℕ) (after : State) (end : TickEnd) → IsSound m → Starts m pending after end → IsInOrder id_before after.records
starts_in_order m pending after end s starts = starts_with (λ k. IsInOrder id_before k.records) m pending after end starts s.records.in_order (started_in_order m s)

started_unused : (m : State) → IsSound m → (f : ℕ) → in_outbox (started m) f ≡ true → is_present (uses (started m).records) f ≡ false
unfolding triggered
started_unused m s f h = (started_outbox m s).unused f (IsIn-from_test f (m.waiting ++ m.taken) h)

pub starts_unused : (m : State) (pending : ℕ) (after : State) (end : TickEnd) → IsSound m → Starts m pending after end → (f : ℕ) → in_outbox after f ≡ true →
    is_present (uses after.records) f ≡ false
starts_unused m pending after end s starts = starts_with (λ k. (f : ℕ) → in_outbox k f ≡ true → is_present (uses k.records) f ≡ false) m pending after end starts s.unused (started_unused m s)

started_done : (m : State) (r : Record) → IsIn r (started m).records → r.done ≡ true → IsIn r m.records
unfolding triggered
started_done m r h d = ⊎_elim (λ k. k) (λ (k : IsIn r (new_record m kind.Checkpoint ∷ [])). absurd (both_ways r.done (ap (λ w. w.done) (only_one r (new_record m kind.Checkpoint) k)) d))
    (IsIn-append_cases r m.records (new_record m kind.Checkpoint ∷ []) h)

-- a done record was done before
pub starts_done : (m : State) (pending : ℕ) (after : State) (end : TickEnd) → Starts m pending after end → (r : Record) → IsIn r after.records → r.done ≡ true → IsIn r m.records
starts_done m pending after end starts = starts_with (λ k. (r : Record) → IsIn r k.records → r.done ≡ true → IsIn r m.records) m pending after end starts (λ r h d. h) (started_done m)

-- the order of the start and of the drop

held_then_drop : (m after : State) (failures expired : ℕ) (a b : Record → Bool) (here there : TickEnd) → ((r : Record) → IsIn r m.records → a r ≡ b r) →
    stepped m (ticked expired here) ≡ stepped after (ticked expired there) → stepped (drop (record m { failures = failures }) a None) (ticked expired here)
    ≡ stepped (record (drop after b None) { failures = failures }) (ticked expired there)
unfolding drop
held_then_drop m after failures expired a b here there agree e = grind (arith, common_steps, answer_second, drop_same, state_first)

started_then_drop : (m after : State) (failures expired : ℕ) (a b : Record → Bool) (there : TickEnd) → IsSound m → ((r : Record) → IsIn r m.records → a r ≡ b r) →
    ((r : Record) → IsIn r m.records → r.done ≡ true → b r ≡ false) → b (new_record m kind.Checkpoint) ≡ false → stepped (started m) (ticked expired (ends.Triggered m.next))
    ≡ stepped after (ticked expired there) → stepped (record (started (drop m a None)) { failures = failures }) (ticked expired (ends.Triggered m.next))
    ≡ stepped (record (drop after b None) { failures = failures }) (ticked expired there)
unfolding drop
started_then_drop m after failures expired a b there s agree spared stays e =
    let due : ℕ = m.latest + gap m.opening.config in
    ap (λ k. stepped (record k { failures = failures }) (ticked expired (ends.Triggered m.next))) (ap (λ k. record (triggered k kind.Checkpoint) { due = due }) (drop_same m a b agree)
    ∙ sym (drop_triggered m b due s spared stays) ∙ ap (λ k. drop k b None) (state_first (started m) after (ticked expired (ends.Triggered m.next)) (ticked expired there) e))
    ∙ ap (stepped (record (drop after b None) { failures = failures })) (answer_second (started m) after (ticked expired (ends.Triggered m.next)) (ticked expired there) e)

-- what counts failures does not change a start
started_counted : (m : State) (failures : ℕ) (a : Record → Bool) → started (drop (record m { failures = failures }) a None) ≡ record (started (drop m a None)) { failures = failures }
unfolding drop triggered
started_counted m failures a = grind (arith, common_steps, new_record, pins_same)

start_then_drop : (m : State) (h : Hold) (failures expired : ℕ) (a b : Record → Bool) (after : State) (end : TickEnd) → IsSound m → ((r : Record) → IsIn r m.records → a r ≡ b r) →
    ((r : Record) → IsIn r m.records → r.done ≡ true → b r ≡ false) → b (new_record m kind.Checkpoint) ≡ false → start_or_hold m expired h ≡ (after, ticked expired end) →
    start_or_hold (drop (record m { failures = failures }) a None) expired h ≡ stepped (record (drop after b None) { failures = failures }) (ticked expired end)
unfolding start_or_hold drop
start_then_drop m hold.Interval failures expired a b after end s agree spared stays e = held_then_drop m after failures expired a b ends.HeldInterval end agree e
start_then_drop m hold.AtOnce failures expired a b after end s agree spared stays e = held_then_drop m after failures expired a b ends.HeldAtOnce end agree e
start_then_drop m hold.Pause failures expired a b after end s agree spared stays e = held_then_drop m after failures expired a b ends.HeldPause end agree e
start_then_drop m hold.Go failures expired a b after end s agree spared stays e = rw (started_counted m failures a, started_then_drop m after failures expired a b end s agree spared stays e)

-- the count of what is left pending

pub split : {X : Type 0} (p q : X → Bool) (xs : List X) → ((x : X) → q x ≡ true → p x ≡ true) → count_by p (filter (λ x. not (q x)) xs) + count_by q xs ≡ count_by p xs
split p q [] within = refl
split {X} p q (x ∷ xs) within = grind (arith, common_steps, within x, split p q xs within, count_by-cons p x (filter (λ y. not (q y)) xs), count_by-cons q x xs, count_by-cons p x xs)

abbrev pub pending_checkpoint : Record → Bool
pending_checkpoint r = is_pending r && is_checkpoint r

-- so many checkpoints are left pending once the expired records are dropped
pub pending_left : (m : State) (failures : ℕ) → pending_checkpoints (drop (record m { failures = failures }) (is_expired m m.latest) None) + count_by (is_late m) m.records ≡ pending_checkpoints m
unfolding drop
pending_left m failures = let expired : Record → Bool = is_expired m m.latest in
    let same : count_by pending_checkpoint (kept expired None m.records) ≡ count_by pending_checkpoint (filter (λ r. not (is_late m r)) m.records) =
    ap (count_by pending_checkpoint) (map_itself (unpinned None) (filter (keeps expired) m.records) (λ r h. refl)) ∙ count_by-filter_agree pending_checkpoint (keeps expired)
    (λ r. not (is_late m r)) m.records (λ r e. ap not (late_is m r e)) in ap (λ n. n + count_by (is_late m) m.records) same ∙ split pending_checkpoint (is_late m) m.records (λ r e.
    let p = and_parts (is_expired m m.latest r) (is_checkpoint r) e in
    and_from (is_pending r) (is_checkpoint r) (and_parts (is_pending r) (leb (r.started + m.opening.config.timeout) m.latest) p.0).0 p.1)
  where
    and_true : (a b : Bool) → b ≡ true → a ≡ (a && b)
    and_true true b e = sym e
    and_true false b e = refl

    -- among pending checkpoints
    late_is : (m : State) (r : Record) → pending_checkpoint r ≡ true → is_expired m m.latest r ≡ is_late m r
    late_is m r e = and_true (is_expired m m.latest r) (is_checkpoint r) (and_parts (is_pending r) (is_checkpoint r) e).1

    count_by-filter_agree : (p q t : Record → Bool) (rs : List Record) → ((r : Record) → p r ≡ true → q r ≡ t r) → count_by p (filter q rs) ≡ count_by p (filter t rs)
    count_by-filter_agree p q t rs agree = count_by-filter p q rs ∙ count_by-same (λ r. q r && p r) (λ r. t r && p r) rs (λ r h. grind (arith, common_steps, agree r)) ∙ sym (count_by-filter p t rs)

-- the whole tick

tick_if : (m : State) (b : Bool) → (ltb 0 (late_in m) && ltb m.opening.config.tolerable (m.failures + late_in m)) ≡ b → tick m
    ≡ cond b (stepped (failed_over (record m { failures = m.failures + late_in m })) (ticked (dropped_by m (is_expired m m.latest)) ends.Failed))
    (after_expiry (drop (record m { failures = m.failures + late_in m }) (is_expired m m.latest) None) (dropped_by m (is_expired m m.latest)))
unfolding tick
tick_if m b e = grind (arith, common_steps)

-- too many have failed
pub tick_fails : (m : State) (failures expired : ℕ) → failures ≡ m.failures + late_in m → expired ≡ dropped_by m (is_expired m m.latest) →
    (ltb 0 (late_in m) && ltb m.opening.config.tolerable failures) ≡ true → tick m ≡ (record (failed_over m) { failures = failures }, ticked expired ends.Failed)
unfolding failed_over drop
tick_fails m failures expired f e many = grind (arith, common_steps, tick_if)

-- few have failed
pub tick_goes : (m : State) (failures expired pending : ℕ) → failures ≡ m.failures + late_in m → expired ≡ dropped_by m (is_expired m m.latest) → pending + late_in m ≡ pending_checkpoints m →
    (ltb 0 (late_in m) && ltb m.opening.config.tolerable failures) ≡ false → tick m ≡ start_or_hold (drop (record m { failures = failures }) (is_expired m m.latest) None) expired (held_at m pending)
unfolding after_expiry drop
tick_goes m failures expired pending f e p few =
    let left : pending_checkpoints (drop (record m { failures = failures }) (is_expired m m.latest) None) ≡ pending = let total = pending_left m failures in omega (arith, total, p) in
    tick_if m false (ap (λ n. ltb 0 (late_in m) && ltb m.opening.config.tolerable n) (sym f) ∙ few) ∙ ap (λ n. after_expiry (drop (record m { failures = n }) (is_expired m m.latest) None)
    (dropped_by m (is_expired m m.latest))) (sym f) ∙ ap (after_expiry (drop (record m { failures = failures }) (is_expired m m.latest) None)) (sym e)
    ∙ ap (λ n. start_or_hold (drop (record m { failures = failures }) (is_expired m m.latest) None) expired (held_at m n)) left

-- the same if the checkpoint is started before the drop
pub tick_starts : (m after : State) (failures expired pending : ℕ) (b : Record → Bool) (end : TickEnd) → IsSound m → failures ≡ m.failures + late_in m →
    expired ≡ dropped_by m (is_expired m m.latest) → pending + late_in m ≡ pending_checkpoints m → (ltb 0 (late_in m) && ltb m.opening.config.tolerable failures) ≡ false →
    ((r : Record) → IsIn r m.records → is_expired m m.latest r ≡ b r) → b (new_record m kind.Checkpoint) ≡ false → Starts m pending after end →
    tick m ≡ (record (drop after b None) { failures = failures }, ticked expired end)
tick_starts m after failures expired pending b end s f e p few agree stays starts =
    let spared : (r : Record) → IsIn r m.records → r.done ≡ true → b r ≡ false = λ r h d. sym (agree r h) ∙ ap (λ x. not x && leb (r.started + m.opening.config.timeout) m.latest) d in
    tick_goes m failures expired pending f e p few ∙ start_then_drop m (held_at m pending) failures expired (is_expired m m.latest) b after end s agree spared stays (starts expired)
