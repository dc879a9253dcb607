-- How often lists of files have a file, and the search for one.
use Rattle.ckpt_registry.proofs.Names.{◌≡◌, ℕ, zero, suc, ◌<◌, ◌≤◌, ltb, List, [], ◌∷◌, get_or, take, sym, ◌∙◌, ⊎_elim, arith, Ok, Err, Result, flat_map, IsBinarySearchResult, nat_cmp, is_ok}
use Rattle.ckpt_registry.proofs.Names.{cases_lt, le-ltb, lt-ltb, get_or_default, searched, IsAscending, times, IsIn, times-append, times-from_IsIn, IsIn-from_times, ascending_at, IsIn-get_or}
use Rattle.ckpt_registry.proofs.Names.{IsIn-place}

-- what a binary search returns
pub times-from_search : (xs : List ℕ) (x : ℕ) (r : Result ℕ ℕ) → IsAscending xs → IsBinarySearchResult (λ y. nat_cmp y x) xs r → is_ok r ≡ ltb 0 (times x xs)
times-from_search xs x (Ok i) a h =
    let at = searched xs x (Ok i) h (ascending_at xs a) in
    sym (lt-ltb 0 (times x xs) (times-from_IsIn x xs (rw (← at.1) (IsIn-get_or xs i 0 at.0))))
times-from_search xs x (Err i) a h =
    let at = searched xs x (Err i) h (ascending_at xs a) in
    let absent : IsIn x xs → ⊥ = λ q.
    let place = IsIn-place x xs q in
    let here : get_or xs place.0 0 ≡ x = get_or_default xs place.0 0 x place.1 ∙ place.2 in
    ⊎_elim (λ (b : place.0 < i). absurd (omega (arith, at.1 place.0 b, here))) (λ (b : i ≤ place.0). absurd (omega (arith, at.2 place.0 b place.1, here))) (cases_lt place.0 i) in
    sym (le-ltb 0 (times x xs) (⊎_elim (λ b. absurd (absent (IsIn-from_times x xs b))) (λ b. b) (cases_lt 0 (times x xs))))

-- the first elements make no more than all
pub times_of_take : {X : Type 0} (g : X → List ℕ) (f : ℕ) (n : ℕ) (xs : List X) → times f (flat_map g (take n xs)) ≤ times f (flat_map g xs)
times_of_take g f zero xs = omega arith
times_of_take g f (suc n) [] = omega arith
times_of_take g f (suc n) (x ∷ xs) = omega (arith, times_of_take g f n xs, times-append f (g x) (flat_map g (take n xs)), times-append f (g x) (flat_map g xs))
