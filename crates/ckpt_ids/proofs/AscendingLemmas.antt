-- Numbers in ascending order: what sorting makes.
use Rattle.ckpt_ids.proofs.Names.{common_steps, ◌≡◌, ℕ, zero, suc, ◌+◌, ◌<◌, ◌≤◌, true, false, ltb, leb, eqb, List, [], ◌∷◌, ◌++◌, length, get_or, refl, sym, ◌∙◌, inl, inr, arith, IsPermutation}
use Rattle.ckpt_ids.proofs.Names.{IsNonDecreasingBy, IsSorted, nat_cmp, ltb-true, ltb-false, leb-true, lt-ltb, le-ltb, eq-eqb, IsNonDecreasingBy-from_sort, sum_by-IsPermutation, AreDistinct, IsIn}
use Rattle.ckpt_ids.proofs.Names.{put, IsStrictOrder, IsAscending, IsAscendingSet, ascending, one_if, times}
use Rattle.ckpt_ids.proofs.CountLemmas.{count_by-append, count_by-cons, count_by_yes, IsIn-from_times}
use Rattle.ckpt_ids.proofs.OrderedLemmas.{ComesBefore-at, ComesBefore-from, IsIn-get_or, IsIn-place, IsIn-put_cases}

-- the order of numbers
pub numbers_in_order : IsStrictOrder ltb
numbers_in_order = record {
  irreflexive = λ x. le-ltb x x (omega arith);
  transitive = λ x y z a b. lt-ltb x z (omega (arith, ltb-true x y a, ltb-true y z b));
  total = λ x y a b. omega (arith, ltb-false x y a, ltb-false y x b);
}

pub times-cons : (z x : ℕ) (xs : List ℕ) → times z (x ∷ xs) ≡ one_if (eqb x z) + times z xs
times-cons z x xs = count_by-cons (λ y. eqb y z) x xs

times-cons_same : (z : ℕ) (xs : List ℕ) → times z (z ∷ xs) ≡ suc (times z xs)
times-cons_same z xs = count_by_yes (λ y. eqb y z) z xs (eq-eqb z z refl)

least_first : (x y : ℕ) (ys : List ℕ) → IsAscending (y ∷ ys) → IsIn x (y ∷ ys) → y ≤ x
least_first x y ys a (inl e) = omega arith
least_first x y ys a (inr h) = leb-true y x (ComesBefore-at leb y x ys a.0 h)

tail_times : (x y z : ℕ) (xs ys : List ℕ) → x ≡ y → times z (x ∷ xs) ≡ times z (y ∷ ys) → times z xs ≡ times z ys
tail_times x y z xs ys same e = grind (arith, common_steps, times-cons)

-- two ascending lists with the same numbers as often are equal
pub same_from_times : (xs ys : List ℕ) → IsAscending xs → IsAscending ys → ((z : ℕ) → times z xs ≡ times z ys) → xs ≡ ys
same_from_times [] [] a b e = refl
same_from_times [] (y ∷ ys) a b e = absurd (omega (arith, e y, times-cons_same y ys))
same_from_times (x ∷ xs) [] a b e = absurd (omega (arith, e x, times-cons_same x xs))
same_from_times (x ∷ xs) (y ∷ ys) a b e =
    let there : (z : ℕ) → 0 < times z (x ∷ xs) → IsIn z (x ∷ xs) × IsIn z (y ∷ ys) = λ z h. (IsIn-from_times z (x ∷ xs) h, IsIn-from_times z (y ∷ ys) (omega (arith, e z))) in
    let same : x ≡ y = grind (arith, common_steps, there, e y, times-cons_same x xs, times-cons_same y ys, least_first x y ys b, least_first y x xs a) in
    rw (same, same_from_times xs ys a.1 b.1 (λ z. tail_times x y z xs ys same (e z))) refl

pub IsAscending-put : (x : ℕ) (xs : List ℕ) → IsAscending xs → IsAscending (put ltb x xs)
IsAscending-put x [] a = (tt, tt)
IsAscending-put x (y ∷ xs) a =
    let later : ltb y x ≡ true → (z : ℕ) → IsIn z (put ltb x xs) → leb y z ≡ true = λ e z h. grind (arith, common_steps, ComesBefore-at leb y z xs a.0, IsIn-put_cases ltb x z xs h) in
    let here : ltb y x ≡ false → (z : ℕ) → IsIn z (y ∷ xs) → leb x z ≡ true = λ e z h. grind (arith, common_steps, least_first z y xs a h) in
    grind (arith, common_steps, IsAscending-put x xs, later, here, ComesBefore-from)

pub IsAscending-ascending : (xs : List ℕ) → IsAscending (ascending xs)
IsAscending-ascending [] = tt
IsAscending-ascending (x ∷ xs) = IsAscending-put x (ascending xs) (IsAscending-ascending xs)

times-put : (z x : ℕ) (xs : List ℕ) → times z (put ltb x xs) ≡ times z (x ∷ xs)
times-put z x [] = refl
times-put z x (y ∷ xs) = grind (arith, common_steps, times-put z x xs)

pub times-ascending : (z : ℕ) (xs : List ℕ) → times z (ascending xs) ≡ times z xs
times-ascending z [] = refl
times-ascending z (x ∷ xs) = omega (arith, times-put z x (ascending xs), times-cons z x (ascending xs), times-ascending z xs, times-cons z x xs)

pub IsAscending-from_non_decreasing : (xs : List ℕ) → IsNonDecreasingBy (λ x. x) xs → IsAscending xs
IsAscending-from_non_decreasing [] h = tt
IsAscending-from_non_decreasing (x ∷ xs) h = (
  ComesBefore-from leb x xs (λ y k. let p = IsIn-place y xs k in grind (arith, common_steps, h 0 (suc p.0) y)),
  IsAscending-from_non_decreasing xs (λ i j d a b. h (suc i) (suc j) d (omega arith) (omega arith)),
)

pub IsAscending-from_sorted : (xs : List ℕ) → IsSorted nat_cmp xs → IsAscending xs
IsAscending-from_sorted xs h = IsAscending-from_non_decreasing xs (IsNonDecreasingBy-from_sort (λ x. x) xs h)

-- what a sort leaves
pub ascending-from_sort : (xs ys : List ℕ) → IsPermutation xs ys → IsSorted nat_cmp ys → ys ≡ ascending xs
ascending-from_sort xs ys p s =
    same_from_times ys (ascending xs) (IsAscending-from_sorted ys s) (IsAscending-ascending xs)
    (λ z. sum_by-IsPermutation (λ x. one_if (eqb x z)) xs ys p ∙ sym (times-ascending z xs))

-- an ascending list is its own ascending order
pub ascending_already : (xs : List ℕ) → IsAscending xs → xs ≡ ascending xs
ascending_already xs a = same_from_times xs (ascending xs) a (IsAscending-ascending xs) (λ z. sym (times-ascending z xs))

pub ascending-swapped : (xs ys : List ℕ) → ascending (xs ++ ys) ≡ ascending (ys ++ xs)
ascending-swapped xs ys =
    same_from_times (ascending (xs ++ ys)) (ascending (ys ++ xs)) (IsAscending-ascending (xs ++ ys)) (IsAscending-ascending (ys ++ xs))
    (λ z. omega (arith, times-ascending z (xs ++ ys), times-ascending z (ys ++ xs), count_by-append (λ x. eqb x z) xs ys, count_by-append (λ x. eqb x z) ys xs))

-- ascending numbers, by place
pub ascending_at : (xs : List ℕ) → IsAscending xs → (i j : ℕ) → i ≤ j → j < length xs → get_or xs i 0 ≤ get_or xs j 0
ascending_at [] a i j le lt = absurd (omega arith)
ascending_at (x ∷ xs) a zero zero le lt = omega arith
ascending_at (x ∷ xs) a zero (suc j) le lt = leb-true x (get_or xs j 0) (ComesBefore-at leb x (get_or xs j 0) xs a.0 (IsIn-get_or xs j 0 (omega arith)))
ascending_at (x ∷ xs) a (suc i) j le lt = grind (arith, common_steps, ascending_at xs a.1 i)

-- ascending numbers without repeats rise
pub set-from_distinct : (xs : List ℕ) → IsAscending xs → AreDistinct xs → IsAscendingSet xs
set-from_distinct [] a d = tt
set-from_distinct (x ∷ xs) a d = (ComesBefore-from ltb x xs (λ y k. grind (arith, common_steps, ComesBefore-at leb x y xs a.0 k, d.0)), set-from_distinct xs a.1 d.1)
