-- After a drop of records, done savepoints, idle states and the outbox are still as in a sound state. A later moment keeps a state sound.
use Rattle.ckpt_model.proofs.Names.{◌≡◌, ◌≢◌, ℕ, ◌<◌, ◌^◌, max, Bool, true, false, not, ◌&&◌, eqb, List, ◌++◌, map, ap, ◌∙◌, arith, filter, list_any, cases_Bool, both_ways, not-true, not_from_false}
use Rattle.ckpt_model.proofs.Names.{IsIn, AreDistinct, Record, uses, is_present, released, IsIn-append_left, IsIn-append_right, IsIn-append_cases, IsIn-from_list_any, list_any-from_IsIn}
use Rattle.ckpt_model.proofs.Names.{AreDistinct-append, AreDistinct-left, AreDistinct-right, AreDistinct-apart, AreDistinct-from_order, Running, State, is_checkpoint, is_pending, IsSound}
use Rattle.ckpt_model.proofs.Names.{numbers_in_order, common_steps}
use Rattle.ckpt_model.proofs.Records.{IsIn-changed, IsIn-from_changed, IsHeld, IsHeld_before, ascending-released, after-from_released, held-from_released, IsSoundOutbox}

-- a done savepoint with this number
abbrev pub is_savepoint : ℕ → Record → Bool
is_savepoint id r = r.done && not (is_checkpoint r) && eqb r.id id

-- a done savepoint that is kept and not changed stays
pub savepoint_stays : (h : Record → Record) (q : Record → Bool) (id : ℕ) (rs : List Record) → ((r : Record) → IsIn r rs → is_savepoint id r ≡ true → (q r ≡ true) × (h r ≡ r))
    → list_any (is_savepoint id) rs ≡ true → list_any (is_savepoint id) (map h (filter q rs)) ≡ true
savepoint_stays h q id rs stays e = grind (arith, common_steps, IsIn-from_list_any, stays, list_any-from_IsIn, IsIn-changed)

-- what is held after filtering was held before
pub held_before_filter : (q : Record → Bool) (rs : List Record) (f : ℕ) → IsHeld f (map (λ r. r) (filter q rs)) → IsHeld f rs
held_before_filter q rs f h = grind (arith, common_steps, IsIn-from_changed)

-- the outbox after a drop
pub outbox_dropped : (before after : List Record) (waiting taken : List ℕ) → IsSoundOutbox before waiting taken → ((f : ℕ) → IsHeld f after → IsHeld f before)
    → IsSoundOutbox after (waiting ++ released (uses before) (uses after)) taken
outbox_dropped before after waiting taken s was =
    let out : List ℕ = released (uses before) (uses after) in
    let gone : (f : ℕ) → IsIn f (waiting ++ taken) → is_present (uses after) f ≡ false = λ f h. IsHeld_before f before after (λ r k l. was f (r, k, l)) (s.unused f h) in
    let new : (f : ℕ) → IsIn f out → IsIn f (waiting ++ taken) → ⊥ = λ f h k. both_ways (is_present (uses before) f) (s.unused f k) (held-from_released f before (uses after) h) in
    let front : AreDistinct (waiting ++ out) =
    AreDistinct-append waiting out (AreDistinct-left waiting taken s.apart) (AreDistinct-from_order numbers_in_order out (ascending-released (uses before) (uses after)))
    (λ f w r. new f r (IsIn-append_left f waiting taken w)) in
    record {
      unused = λ f h. let cases = IsIn-append_cases f (waiting ++ out) taken h in
          grind (arith, common_steps, gone f, IsIn-append_left f waiting taken, IsIn-append_right f waiting taken, after-from_released f, IsIn-append_cases f waiting out, cases);
      apart = AreDistinct-append (waiting ++ out) taken front (AreDistinct-right waiting taken s.apart)
          (λ f h t. grind (arith, common_steps, AreDistinct-apart waiting taken s.apart f, new f, IsIn-append_right f waiting taken, IsIn-append_cases f waiting out h));
    }

-- the outbox after records were filtered
pub outbox_filtered : (q : Record → Bool) (rs : List Record) (waiting taken : List ℕ) → IsSoundOutbox rs waiting taken
    → IsSoundOutbox (map (λ r. r) (filter q rs)) (waiting ++ released (uses rs) (uses (map (λ r. r) (filter q rs)))) taken
outbox_filtered q rs waiting taken s = outbox_dropped rs (map (λ r. r) (filter q rs)) waiting taken s (held_before_filter q rs)

-- what is idle stays so
pub idle_stays : {m : State} (dropped : Record → Bool) → IsSound m → m.mode ≢ Running → (r : Record) → IsIn r (map (λ r. r) (filter (λ r. not (dropped r)) m.records)) → r.done ≡ true
idle_stays {m} dropped s ne r h = let p = IsIn-from_changed (λ (r : Record). r) (λ r. not (dropped r)) r m.records h in ap (λ x. x.done) p.3 ∙ s.idle ne p.0 p.1

-- a later moment
pub moment_is_sound : (m : State) (now : ℕ) → IsSound m → now < 2 ^ 62 → IsSound (record m { latest = max now m.latest })
moment_is_sound m now s within = grind (arith, common_steps)

-- no pending record is left if all are dropped
pub none_pending_left : (rs : List Record) (dropped : Record → Bool) → ((r : Record) → is_pending r ≡ true → dropped r ≡ true) → (r : Record)
    → IsIn r (map (λ r. r) (filter (λ r. not (dropped r)) rs)) → r.done ≡ true
none_pending_left rs dropped all r h = grind (arith, common_steps, IsIn-from_changed, both_ways, cases_Bool, not-true, not_from_false)
