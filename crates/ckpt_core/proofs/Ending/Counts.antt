-- How many records a cancelled job drops: few enough for 32 bits.
use Rattle.ckpt_core.proofs.Names.{IsStored, Parts, AreSound, records_in, state_of, is_pending, is_checkpoint, is_done_checkpoint, cancelled, ◌≡◌, ℕ, ◌+◌, ◌≤◌, Bool, true, false, not, ◌&&◌, ◌||◌}
use Rattle.ckpt_core.proofs.Names.{common_steps, dropped_by, is_checkpoint-kind, is_savepoint-kind, count_by-none, count_by-same, count_by-all, or_right, not_from_true, not_from_false, Record}
use Rattle.ckpt_core.proofs.Names.{cond, ltb, List, length, refl, sym, ap, ◌∙◌, ⊎_elim, arith, count_by, cases_Bool, and_right, and_from}
use Rattle.ckpt_core.proofs.Records.{GroupLookups.pending_checkpoints-groups, GroupLookups.savepoints-groups, Lookups.AreGroups, Lookups.count_by-records_of, Pending.count_by-others}

limit_to : (pause at_once : ℕ) → at_once ≤ 64 → cond (ltb 0 pause) 1 at_once ≤ 64
limit_to pause at_once h = ⊎_elim (λ (e : ltb 0 pause ≡ true). rw e (omega arith)) (λ (e : ltb 0 pause ≡ false). rw e h) (cases_Bool (ltb 0 pause))

pub few_pending : (p : Parts) → AreSound p → AreGroups p.pending p.store.checkpoints p.store.savepoints → length p.pending ≤ 1064
unfolding state_of
few_pending p sound groups =
    let waits = pending_checkpoints-groups p.registry p.pending p.store.checkpoints p.store.savepoints groups in
    let kept = savepoints-groups p.registry p.pending p.store.checkpoints p.store.savepoints groups in
    let most = limit_to p.opened.config.pause p.opened.config.at_once sound.sound.config.at_once_to in
    omega (arith, count_by-others is_checkpoint p.pending, waits, kept, sound.sound.records.at_once, sound.sound.records.savepoints_to, most)

pub few_done : (p : Parts) → AreSound p → IsStored p.store → length p.store.checkpoints ≤ 1000
unfolding state_of
few_done p sound stored = omega (arith, stored.few, sound.tied.retained, sound.sound.config.retained_to)

-- what is dropped, by what the configuration says
kept_test : (a b keep : Bool) → keep ≡ true → a ≡ (a || (b && not keep))
kept_test a b keep e = grind (arith, common_steps)

all_test : (a b keep : Bool) → keep ≡ false → (a || b) ≡ (a || (b && not keep))
all_test a b keep e = grind (arith, common_steps)

pub kept_tests : (p : Parts) → p.opened.config.keep_on_cancel ≡ true → (r : Record) → is_pending r ≡ cancelled (state_of p) r
unfolding state_of
kept_tests p e r = kept_test (is_pending r) (is_done_checkpoint r) p.opened.config.keep_on_cancel e

pub all_tests : (p : Parts) → p.opened.config.keep_on_cancel ≡ false → (r : Record) → (is_pending r || is_done_checkpoint r) ≡ cancelled (state_of p) r
unfolding state_of
all_tests p e r = all_test (is_pending r) (is_done_checkpoint r) p.opened.config.keep_on_cancel e

all_pending : {pending checkpoints savepoints : List Record} → AreGroups pending checkpoints savepoints → count_by is_pending pending ≡ length pending
all_pending {pending} {checkpoints} {savepoints} groups = count_by-all is_pending pending (λ r h. not_from_false r.done (groups.not_done r h))

pub pending_counted : (p : Parts) → AreGroups p.pending p.store.checkpoints p.store.savepoints → p.opened.config.keep_on_cancel ≡ true → length p.pending ≡ dropped_by (state_of p)
    (cancelled (state_of p))
unfolding state_of
pending_counted p groups e =
    let none_c : count_by is_pending p.store.checkpoints ≡ 0 = count_by-none is_pending p.store.checkpoints (λ r h. not_from_true r.done (groups.checkpoints_done r h).0) in
    let none_s : count_by is_pending p.store.savepoints ≡ 0 = count_by-none is_pending p.store.savepoints (λ r h. not_from_true r.done (groups.savepoints_done r h).0) in
    let whole : count_by is_pending (records_in p) ≡ length p.pending =
    count_by-records_of is_pending p.registry p.pending p.store.checkpoints p.store.savepoints (λ r. refl) ∙ omega (arith, none_c, none_s, all_pending groups) in
    sym whole ∙ count_by-same is_pending (cancelled (state_of p)) (records_in p) (λ r h. kept_tests p e r)

pub all_counted : (p : Parts) → AreGroups p.pending p.store.checkpoints p.store.savepoints → p.opened.config.keep_on_cancel ≡ false → length p.pending + length p.store.checkpoints ≡ dropped_by
    (state_of p) (cancelled (state_of p))
unfolding state_of
all_counted p groups e =
    let test : Record → Bool = λ r. is_pending r || is_done_checkpoint r in
    let all_p : count_by test p.pending ≡ length p.pending = count_by-all test p.pending (λ r h. ap (λ b. b || is_done_checkpoint r) (not_from_false r.done (groups.not_done r h))) in
    let all_c : count_by test p.store.checkpoints ≡ length p.store.checkpoints = count_by-all test p.store.checkpoints (λ r h. or_right (is_pending r) (is_done_checkpoint r)
    (and_from r.done (is_checkpoint r) (groups.checkpoints_done r h).0 (is_checkpoint-kind r (groups.checkpoints_done r h).1))) in
    let none_s : count_by test p.store.savepoints ≡ 0 = count_by-none test p.store.savepoints (λ r h. ap (λ b. b || is_done_checkpoint r) (not_from_true r.done (groups.savepoints_done r h).0)
    ∙ and_right r.done (is_checkpoint r) (is_savepoint-kind r (groups.savepoints_done r h).1)) in
    let whole : count_by test (records_in p) ≡ length p.pending + length p.store.checkpoints =
    count_by-records_of test p.registry p.pending p.store.checkpoints p.store.savepoints (λ r. refl) ∙ omega (arith, all_p, all_c, none_s) in
    sym whole ∙ count_by-same test (cancelled (state_of p)) (records_in p) (λ r h. all_tests p e r)
