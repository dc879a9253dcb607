-- What is released: files that were present before and are not after, ascending, so each once. Lists with no number twice.
use Rattle.ckpt_model.proofs.Names.{◌≡◌, ℕ, true, false, List, [], ◌∷◌, both_ways, eq-eqb, lt-ltb, not-true, not_from_false, or_parts, IsIn, AreDistinct, IsAscendingSet, Record, Use, uses, is_present}
use Rattle.ckpt_model.proofs.Names.{released, numbers_in_order, IsIn-map, IsIn-from_map, IsIn-filter, IsIn-from_filter, IsInOrder-filter, IsInOrder-in_order_once, IsIn-in_order_once}
use Rattle.ckpt_model.proofs.Names.{IsIn-from_in_order_once, list_any-from_IsIn, has_repeats, IsIn-flat_map, uses_of, counted-from_IsIn, common_steps, arith}
use Rattle.ckpt_model.proofs.Records.Present.{IsHeld-from_present, use-from_Holds}

-- the files of a list of uses are ascending
pub ascending-released : (before after : List Use) → IsAscendingSet (released before after)
ascending-released before after = grind (arith, common_steps, IsInOrder-filter, IsInOrder-in_order_once, numbers_in_order)

-- a released file was used before
pub before-from_released : (f : ℕ) (before after : List Use) → IsIn f (released before after) → (u : Use) × IsIn u before × (f ≡ u.file)
before-from_released f before after h = grind (arith, common_steps, IsIn-from_filter, IsIn-from_in_order_once, IsIn-from_map)

-- and is not present after
pub after-from_released : (f : ℕ) (before after : List Use) → IsIn f (released before after) → is_present after f ≡ false
after-from_released f before after h = grind (arith, common_steps, IsIn-from_filter, not-true)

-- a file that is present before and not after is released
pub IsIn-released : (f : ℕ) (u : Use) (before after : List Use) → IsIn u before → u.file ≡ f → is_present after f ≡ false → IsIn f (released before after)
IsIn-released f u before after h e gone = grind (arith, common_steps, IsIn-filter, IsIn-in_order_once, IsIn-map, not_from_false, numbers_in_order)

-- of records: what they held before is released exactly if it is not held after
pub held-from_released : (f : ℕ) (before : List Record) (after : List Use) → IsIn f (released (uses before) after) → is_present (uses before) f ≡ true
held-from_released f before after h = grind (arith, common_steps, before-from_released, counted-from_IsIn, eq-eqb, lt-ltb)

-- and what was present and is not present after is released
pub released-from_held : (f : ℕ) (before : List Record) (after : List Use) → is_present (uses before) f ≡ true → is_present after f ≡ false → IsIn f (released (uses before) after)
released-from_held f before after h gone =
    let r = IsHeld-from_present f before h in
    let q = use-from_Holds f r.0 r.2 in
    IsIn-released f q.0 (uses before) after (IsIn-flat_map uses_of r.0 q.0 before r.1 q.1) q.2 gone

-- no number twice

-- a list that passes the test of repeats
pub distinct-from_test : (xs : List ℕ) → has_repeats xs ≡ false → AreDistinct xs
distinct-from_test [] e = grind (arith, common_steps)
distinct-from_test (x ∷ xs) e = grind (arith, common_steps, both_ways, eq-eqb, list_any-from_IsIn, or_parts, distinct-from_test xs)
