-- How many elements of a list pass a test.
use Rattle.ckpt_ids.proofs.Names.{common_steps, ◌≡◌, ℕ, suc, ◌+◌, ◌<◌, ◌≤◌, Bool, true, false, cond, eqb, List, [], ◌∷◌, ◌++◌, filter, length, map, refl, ap, ◌∙◌, inl, inr, arith, count_by, eqb-true}
use Rattle.ckpt_ids.proofs.Names.{eq-eqb, sum_by-append, sum_by-cons, sum_by_push, one_if, times, AreDistinct, IsIn, put, in_order}

pub one_if-true : (b : Bool) → b ≡ true → one_if b ≡ 1
one_if-true b e = ap one_if e

pub one_if-false : (b : Bool) → b ≡ false → one_if b ≡ 0
one_if-false b e = ap one_if e

-- one more element at the start
pub count_by-cons : {X : Type 0} (p : X → Bool) (x : X) (xs : List X) → count_by p (x ∷ xs) ≡ one_if (p x) + count_by p xs
count_by-cons p x xs = sum_by-cons (λ y. one_if (p y)) x xs

-- and at the end
pub count_by_push : {X : Type 0} (p : X → Bool) (xs : List X) (x : X) → count_by p (xs ++ x ∷ []) ≡ count_by p xs + one_if (p x)
count_by_push p xs x = sum_by_push (λ y. one_if (p y)) xs x

-- an element that passes counts once
pub count_by_yes : {X : Type 0} (p : X → Bool) (x : X) (xs : List X) → p x ≡ true → count_by p (x ∷ xs) ≡ suc (count_by p xs)
count_by_yes p x xs e = omega (arith, count_by-cons p x xs, one_if-true (p x) e)

-- one that fails does not count
pub count_by_no : {X : Type 0} (p : X → Bool) (x : X) (xs : List X) → p x ≡ false → count_by p (x ∷ xs) ≡ count_by p xs
count_by_no p x xs e = omega (arith, count_by-cons p x xs, one_if-false (p x) e)

-- the count is 0 if no element passes
pub count_by-none : {X : Type 0} (p : X → Bool) (xs : List X) → ((x : X) → IsIn x xs → p x ≡ false) → count_by p xs ≡ 0
count_by-none p [] fails = refl
count_by-none p (x ∷ xs) fails = count_by_no p x xs (fails x (inl refl)) ∙ count_by-none p xs (λ y h. fails y (inr h))

-- the count is the length if each element passes
pub count_by-all : {X : Type 0} (p : X → Bool) (xs : List X) → ((x : X) → IsIn x xs → p x ≡ true) → count_by p xs ≡ length xs
count_by-all p [] passes = refl
count_by-all p (x ∷ xs) passes = grind (arith, common_steps, passes, count_by-all p xs)

-- two tests that agree on the elements count the same
pub count_by-same : {X : Type 0} (p q : X → Bool) (xs : List X) → ((x : X) → IsIn x xs → p x ≡ q x) → count_by p xs ≡ count_by q xs
count_by-same p q [] agree = refl
count_by-same p q (x ∷ xs) agree = grind (arith, common_steps, agree, count_by-same p q xs)

-- the count is above 0 if an element passes
pub counted-from_IsIn : {X : Type 0} (p : X → Bool) (x : X) (xs : List X) → IsIn x xs → p x ≡ true → 0 < count_by p xs
counted-from_IsIn p x [] h e = absurd h
counted-from_IsIn p x (y ∷ xs) h e = grind (arith, common_steps, counted-from_IsIn p x xs)

-- and the other way round
pub IsIn-from_counted : {X : Type 0} (p : X → Bool) (xs : List X) → 0 < count_by p xs → (x : X) × IsIn x xs × (p x ≡ true)
IsIn-from_counted p [] h = absurd (omega arith)
IsIn-from_counted p (x ∷ xs) h = grind (arith, common_steps, IsIn-from_counted p xs)

-- two lists together
pub count_by-append : {X : Type 0} (p : X → Bool) (xs ys : List X) → count_by p (xs ++ ys) ≡ count_by p xs + count_by p ys
count_by-append p xs ys = sum_by-append (λ x. one_if (p x)) xs ys

-- of changed elements
pub count_by-map : {X Y : Type 0} (p : Y → Bool) (f : X → Y) (xs : List X) → count_by p (map f xs) ≡ count_by (λ x. p (f x)) xs
count_by-map p f [] = refl
count_by-map p f (x ∷ xs) = grind (arith, common_steps, count_by-map p f xs)

-- an element that is put in its place
pub count_by-put : {X : Type 0} (p : X → Bool) (before : X → X → Bool) (x : X) (xs : List X) → count_by p (put before x xs) ≡ one_if (p x) + count_by p xs
count_by-put p before x [] = count_by-cons p x []
count_by-put p before x (y ∷ ys) = grind (arith, common_steps, count_by-put p before x ys)

-- a list that is put in order
pub count_by-in_order : {X : Type 0} (p : X → Bool) (before : X → X → Bool) (xs : List X) → count_by p (in_order before xs) ≡ count_by p xs
count_by-in_order p before [] = refl
count_by-in_order p before (x ∷ xs) = grind (arith, common_steps, count_by-put p before x (in_order before xs), count_by-in_order p before xs)

-- how often a number is in a list

pub times-append : (f : ℕ) (xs ys : List ℕ) → times f (xs ++ ys) ≡ times f xs + times f ys
times-append f xs ys = count_by-append (λ x. eqb x f) xs ys

pub times-from_IsIn : (f : ℕ) (xs : List ℕ) → IsIn f xs → 0 < times f xs
times-from_IsIn f xs h = counted-from_IsIn (λ x. eqb x f) f xs h (eq-eqb f f refl)

pub IsIn-from_times : (f : ℕ) (xs : List ℕ) → 0 < times f xs → IsIn f xs
IsIn-from_times f xs h = grind (arith, common_steps, IsIn-from_counted (λ x. eqb x f) xs h, eqb-true)

-- numbers without repeats
pub times_at_most_once : (f : ℕ) (xs : List ℕ) → AreDistinct xs → times f xs ≤ 1
times_at_most_once f [] d = omega arith
times_at_most_once f (x ∷ xs) d = grind (arith, common_steps, IsIn-from_times f xs, times_at_most_once f xs, eqb-true, count_by-cons (λ y. eqb y f) x xs)

-- and the other way round
pub AreDistinct-from_times : (xs : List ℕ) → ((f : ℕ) → times f xs ≤ 1) → AreDistinct xs
AreDistinct-from_times [] h = tt
AreDistinct-from_times (x ∷ xs) h = (λ k. grind (arith, common_steps, h x, times-from_IsIn x xs k, eq-eqb), AreDistinct-from_times xs (λ f. grind (arith, common_steps, h f)))

-- a filter that depends on the number alone keeps all of a number or none
pub times-filter : (p : ℕ → Bool) (z : ℕ) (xs : List ℕ) → times z (filter p xs) ≡ cond (p z) (times z xs) 0
times-filter p z [] = grind (arith, common_steps)
times-filter p z (x ∷ xs) = grind (arith, common_steps, times-filter p z xs, eqb-true)
