-- When the first pending record expires: from the least moment at which one started, and the timeout.
use Rattle.ckpt_core.proofs.Names.{IsIn-from_in_order, IsIn-from_list_any, list_any-from_IsIn, IsPending, IsStored, Parts, with_pins, grouped, records_in, state_of, IsNextExpiry, has_come, IsSound}
use Rattle.ckpt_core.proofs.Names.{leb-true, le-leb, and_parts, and_from, not_from_false, not_from_true, IsIn, Record, Use, IsIn-append_left, IsIn-append_cases, IsIn-map, IsIn-from_map, IsIn-in_order}
use Rattle.ckpt_core.proofs.Names.{◌≡◌, ℕ, ◌+◌, ◌<◌, ◌≤◌, ◌^◌, Bool, true, false, ◌&&◌, leb, List, ◌++◌, map, refl, sym, ap, ◌∙◌, ⊎_elim, arith, Option, Some, None, list_any, option_map, both_ways}
use Rattle.ckpt_core.proofs.{Ending.Drops.groups_of, Names.id_before, Names.is_pending, Names.common_steps, Records.GroupLookups.same_tests, Records.Lookups.AreGroups, Records.Lookups.done_in}

-- the moment is when the first of these records started
abbrev pub TellsLeast : List Record → Option ℕ → Type 0
TellsLeast xs o = (t : ℕ) → list_any (λ r. leb r.started t) xs ≡ has_come o t

started_by : (xs : List Record) (x : Record) → IsIn x xs → list_any (λ r. leb r.started x.started) xs ≡ true
started_by xs x h = list_any-from_IsIn (λ r. leb r.started x.started) x xs h (le-leb x.started x.started (omega arith))

none_started : (xs : List Record) → TellsLeast xs None → (x : Record) → IsIn x xs → ⊥
none_started xs told x h = both_ways (list_any (λ r. leb r.started x.started) xs) (told x.started) (started_by xs x h)

least_is : (xs : List Record) (s : ℕ) → TellsLeast xs (Some s) → (x : Record) → IsIn x xs → s ≤ x.started
least_is xs s told x h = leb-true s x.started (sym (told x.started) ∙ started_by xs x h)

least_in : (xs : List Record) (s : ℕ) → TellsLeast xs (Some s) → (x : Record) × IsIn x xs × (x.started ≤ s)
least_in xs s told = let q = IsIn-from_list_any (λ (r : Record). leb r.started s) xs (told s ∙ le-leb s s (omega arith)) in (q.0, q.1, leb-true q.0.started s q.2)

pending_there : (p : Parts) (x : Record) → IsIn x p.pending → IsIn (with_pins p.registry x) (records_in p)
pending_there p x h = grind (arith, common_steps, IsIn-append_left, IsIn-in_order, IsIn-map)

-- it is below all moments, so the timeout can be added
pub started_bound : (p : Parts) (s : ℕ) → IsSound (state_of p) → TellsLeast p.pending (Some s) → s < 2 ^ 62
unfolding state_of
started_bound p s sound told = let x = least_in p.pending s told in omega (arith, sound.records.started (with_pins p.registry x.0) (pending_there p x.0 x.1), least_is p.pending s told x.0 x.1)

-- a live record that is pending and too old is one of the pending ones
expired_from : (p : Parts) → AreGroups p.pending p.store.checkpoints p.store.savepoints → (timeout now : ℕ) (r : Record) → IsIn r (records_in p) →
    (is_pending r && leb (r.started + timeout) now) ≡ true → (x : Record) × IsIn x p.pending × (x.started + timeout ≤ now)
expired_from p groups timeout now r h e =
    let us : List Use = p.registry in
    let done : List Record = p.store.checkpoints ++ p.store.savepoints in
    let parts = and_parts (is_pending r) (leb (r.started + timeout) now) e in
    let Found : Type 0 = (x : Record) × IsIn x p.pending × (x.started + timeout ≤ now) in
    let waits : IsIn r (map (with_pins us) p.pending) → Found = λ (k : IsIn r (map (with_pins us) p.pending)). let q = IsIn-from_map (with_pins us) r p.pending k in
    (q.0, q.1, omega (arith, ap (λ x. x.started) q.2, leb-true (r.started + timeout) now parts.1)) in
    let ended : IsIn r done → Found = λ (k : IsIn r done). absurd (both_ways (is_pending r) (not_from_true r.done (done_in groups r k)) parts.0) in
    ⊎_elim waits ended (IsIn-append_cases r (map (with_pins us) p.pending) done (IsIn-from_in_order id_before r (grouped us p.pending p.store.checkpoints p.store.savepoints) h))

pub next_expiry : (p : Parts) (o : Option ℕ) → ((r : Record) → IsIn r p.pending → IsPending r) → IsStored p.store → TellsLeast p.pending o →
    IsNextExpiry (state_of p) (option_map (λ s. s + p.opened.config.timeout) o)
unfolding state_of
next_expiry p None pending stored told =
    λ now.
    let groups : AreGroups p.pending p.store.checkpoints p.store.savepoints = groups_of p pending stored in
    same_tests (list_any (λ r. is_pending r && leb (r.started + p.opened.config.timeout) now) (records_in p)) false
    (λ e. let q = IsIn-from_list_any (λ (r : Record). is_pending r && leb (r.started + p.opened.config.timeout) now) (records_in p) e in let x = expired_from p groups p.opened.config.timeout now q.0
    q.1 q.2 in absurd (none_started p.pending told x.0 x.1))
    (λ e. absurd (both_ways false refl e))
next_expiry p (Some s) pending stored told = λ now.
    let timeout : ℕ = p.opened.config.timeout in
    let groups : AreGroups p.pending p.store.checkpoints p.store.savepoints = groups_of p pending stored in
    let expired : Record → Bool = λ r. is_pending r && leb (r.started + timeout) now in
    let forth : list_any expired (records_in p) ≡ true → leb (s + timeout) now ≡ true = λ e.
    let q = IsIn-from_list_any expired (records_in p) e in
    let x = expired_from p groups timeout now q.0 q.1 q.2 in
    le-leb (s + timeout) now (omega (arith, least_is p.pending s told x.0 x.1)) in
    let back : leb (s + timeout) now ≡ true → list_any expired (records_in p) ≡ true = λ e.
    let x = least_in p.pending s told in
    let come : s + timeout ≤ now = leb-true (s + timeout) now e in
    list_any-from_IsIn expired (with_pins p.registry x.0) (records_in p) (pending_there p x.0 x.1)
    (and_from (is_pending x.0) (leb (x.0.started + timeout) now) (not_from_false x.0.done (groups.not_done x.0 x.1)) (le-leb (x.0.started + timeout) now (omega arith))) in
    same_tests (list_any expired (records_in p)) (leb (s + timeout) now) forth back
