-- A file that is named twice, in ascending lists: it is its own neighbour, or is in both lists.
use Rattle.ckpt_core.proofs.Names.{AreDistinct-left, AreDistinct-right, AreDistinct-apart, AreDistinct-from_order, IsIn-from_test, test-from_IsIn, ascending_at, numbers_in_order, times-from_IsIn}
use Rattle.ckpt_core.proofs.Names.{IsBinarySearchResult, nat_cmp, is_ok, list_any, both_ways, eq-eqb, ltb-false, or_parts, or_cases, or_left, or_right, true_from_ne_false, false_from_ne_true}
use Rattle.ckpt_core.proofs.Names.{ltb-true, lt-ltb, AreDistinct, IsAscending, IsAscendingSet, ComesBefore-at, ComesBefore-from, IsIn-from_list_any, list_any-from_IsIn, AreDistinct-append}
use Rattle.ckpt_core.proofs.Names.{◌≡◌, ℕ, zero, suc, ◌+◌, ◌<◌, ◌≤◌, Bool, true, false, not, ◌||◌, ltb, eqb, List, [], ◌∷◌, ◌++◌, length, get_or, refl, sym, subst, arith, MatchBool, Result, add-one}
use Rattle.ckpt_core.proofs.{Names.IsIn-from_times, Names.has_repeats, Names.distinct-from_test, Names.times-from_search, Names.common_steps, Records.GroupLookups.same_tests}

-- the test of repeats
pub test-from_distinct : (xs : List ℕ) → AreDistinct xs → has_repeats xs ≡ false
test-from_distinct [] a = refl
test-from_distinct (x ∷ xs) a = grind (arith, common_steps, IsIn-from_test, false_from_ne_true, test-from_distinct xs a.1)

-- if each number is below the next, none is there twice
set-from_adjacent : (xs : List ℕ) → ((k d : ℕ) → suc k < length xs → true ≡ ltb (get_or xs k d) (get_or xs (suc k) d)) → IsAscendingSet xs
set-from_adjacent [] h = tt
set-from_adjacent (x ∷ []) h = (tt, tt)
set-from_adjacent (x ∷ y ∷ ys) h =
    let first : ltb x y ≡ true = sym (h 0 0 (omega arith)) in
    let rest : IsAscendingSet (y ∷ ys) = set-from_adjacent (y ∷ ys) (λ k d lt. h (suc k) d (omega arith)) in
    ((first, ComesBefore-from ltb x ys (λ z k. numbers_in_order.transitive x y z first (ComesBefore-at ltb y z ys rest.0 k))), rest)

repeat_at : (xs : List ℕ) (k : ℕ) → suc k < length xs → get_or xs k 0 ≡ get_or xs (suc k) 0 → has_repeats xs ≡ true
repeat_at [] k lt e = absurd (omega arith)
repeat_at (x ∷ []) k lt e = absurd (omega arith)
repeat_at (x ∷ y ∷ ys) zero lt e = or_left (list_any (λ z. eqb x z) (y ∷ ys)) (has_repeats (y ∷ ys)) (or_left (eqb x y) (list_any (λ z. eqb x z) ys) (eq-eqb x y e))
repeat_at (x ∷ y ∷ ys) (suc k) lt e = or_right (list_any (λ z. eqb x z) (y ∷ ys)) (has_repeats (y ∷ ys)) (repeat_at (y ∷ ys) k (omega arith) e)

-- what a comparison of all neighbours says of an ascending list
pub repeats-from_adjacent : (xs : List ℕ) (r : Bool) → IsAscending xs → MatchBool r ((k d : ℕ) → k + 1 < length xs → true ≡ ltb (get_or xs k d) (get_or xs (k + 1) d))
    ((k : ℕ) × (k + 1 < length xs) × ((d : ℕ) → false ≡ ltb (get_or xs k d) (get_or xs (k + 1) d))) → not r ≡ has_repeats xs
repeats-from_adjacent xs true a h =
    let next : (k d : ℕ) → suc k < length xs → true ≡ ltb (get_or xs k d) (get_or xs (suc k) d) = λ k d lt. let At : ℕ → Type 0 = λ n. true ≡ ltb (get_or xs k d) (get_or xs n d) in subst At
    (add-one k) (h k d (omega arith)) in
    sym (test-from_distinct xs (AreDistinct-from_order numbers_in_order xs (set-from_adjacent xs next)))
repeats-from_adjacent xs false a h =
    let lt : suc h.0 < length xs = omega (arith, h.1) in
    let not_below : false ≡ ltb (get_or xs h.0 0) (get_or xs (suc h.0) 0) = rw (add-one h.0) at (h.2 0) in
    let above : get_or xs (suc h.0) 0 ≤ get_or xs h.0 0 = ltb-false (get_or xs h.0 0) (get_or xs (suc h.0) 0) (sym not_below) in
    let below : get_or xs h.0 0 ≤ get_or xs (suc h.0) 0 = ascending_at xs a h.0 (suc h.0) (omega arith) lt in
    sym (repeat_at xs h.0 lt (omega arith))

-- what a binary search returns
pub among-from_search : (xs : List ℕ) (x : ℕ) (r : Result ℕ ℕ) → IsAscending xs → IsBinarySearchResult (λ y. nat_cmp y x) xs r → is_ok r ≡ list_any (λ f. eqb x f) xs
among-from_search xs x r a h = grind (arith, common_steps, IsIn-from_test, IsIn-from_times, lt-ltb, ltb-true, same_tests, test-from_IsIn, times-from_IsIn, times-from_search)

-- two lists
repeats_left : (xs ys : List ℕ) → has_repeats xs ≡ true → has_repeats (xs ++ ys) ≡ true
repeats_left xs ys e = true_from_ne_false (has_repeats (xs ++ ys)) (λ f. both_ways (has_repeats xs) (test-from_distinct xs (AreDistinct-left xs ys (distinct-from_test (xs ++ ys) f))) e)

repeats_right : (xs ys : List ℕ) → has_repeats ys ≡ true → has_repeats (xs ++ ys) ≡ true
repeats_right xs ys e = true_from_ne_false (has_repeats (xs ++ ys)) (λ f. both_ways (has_repeats ys) (test-from_distinct ys (AreDistinct-right xs ys (distinct-from_test (xs ++ ys) f))) e)

abbrev share : List ℕ → List ℕ → Bool
share xs ys = list_any (λ f. list_any (λ g. eqb f g) xs) ys

repeats_between : (xs ys : List ℕ) → share xs ys ≡ true → has_repeats (xs ++ ys) ≡ true
repeats_between xs ys e = grind (arith, common_steps, AreDistinct-apart, IsIn-from_list_any, IsIn-from_test, distinct-from_test, true_from_ne_false)

no_repeats : (xs ys : List ℕ) → has_repeats xs ≡ false → has_repeats ys ≡ false → share xs ys ≡ false → has_repeats (xs ++ ys) ≡ false
no_repeats xs ys a b e = grind (arith, common_steps, AreDistinct-append, both_ways, distinct-from_test, list_any-from_IsIn, test-from_IsIn, test-from_distinct)

-- a file is twice in one list, or in both
pub repeats_within : (xs ys : List ℕ) (v : Bool) → v ≡ (has_repeats xs || has_repeats ys) → v ≡ true → v ≡ has_repeats (xs ++ ys)
repeats_within xs ys v is e = grind (arith, common_steps, or_cases, repeats_left, repeats_right)

pub repeats_across : (xs ys : List ℕ) (v s : Bool) → v ≡ (has_repeats xs || has_repeats ys) → v ≡ false → s ≡ share xs ys → s ≡ has_repeats (xs ++ ys)
repeats_across xs ys v true is e shared = sym (repeats_between xs ys (sym shared))
repeats_across xs ys v false is e shared = grind (arith, common_steps, no_repeats, or_parts)

-- a test that is made if another failed
pub or_first : (a b v : Bool) → a ≡ true → v ≡ true → v ≡ (a || b)
or_first a b v e h = grind (arith, common_steps)

pub or_second : (a b v : Bool) → a ≡ false → v ≡ b → v ≡ (a || b)
or_second a b v e h = grind (arith, common_steps)
