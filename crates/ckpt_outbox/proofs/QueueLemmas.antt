-- What holds of files that are distinct, and of their places.
use Rattle.ckpt_outbox.proofs.Names.{◌≡◌, ℕ, ◌+◌, length, arith, true, false, not, cond, ◌==◌, List, [], ◌∷◌, ◌++◌, take, drop, refl, take-append-drop, IsIn, AreDistinct-append, AreDistinct-apart}
use Rattle.ckpt_outbox.proofs.Names.{AreDistinct-filter, AreDistinct-left, AreDistinct-right, IsIn-from_test, not_in-from_test, test-from_IsIn, list_any, is_in, without, AreDistinct, append_assoc}
use Rattle.ckpt_outbox.proofs.Names.{common_steps}

-- membership

pub not_in-parts : (x : ℕ) (xs ys : List ℕ) → is_in x (xs ++ ys) ≡ false → (is_in x xs ≡ false) × (is_in x ys ≡ false)
not_in-parts x xs ys h = grind (arith, common_steps)

-- what is not there, by the test
pub not_in : (x : ℕ) (xs : List ℕ) → (IsIn x xs → ⊥) → is_in x xs ≡ false
not_in x xs new = grind (arith, IsIn-from_test x xs)

-- two elements, one in the list and one not, differ
pub apart : (x y : ℕ) (xs : List ℕ) → is_in x xs ≡ false → is_in y xs ≡ true → (x == y) ≡ false
apart x y xs h k = grind arith

-- distinct files

pub distinct-append : (xs ys : List ℕ) → AreDistinct xs → AreDistinct ys → ((x : ℕ) → is_in x xs ≡ true → is_in x ys ≡ false) → AreDistinct (xs ++ ys)
distinct-append xs ys a b f = AreDistinct-append xs ys a b (λ x h k. not_in-from_test x ys (f x (test-from_IsIn x xs h)) k)

pub distinct-apart : (xs ys : List ℕ) → AreDistinct (xs ++ ys) → (x : ℕ) → is_in x xs ≡ true → is_in x ys ≡ false
distinct-apart xs ys a x h = not_in x ys (AreDistinct-apart xs ys a x (IsIn-from_test x xs h))

pub AreDistinct-swap : (xs ys : List ℕ) → AreDistinct (xs ++ ys) → AreDistinct (ys ++ xs)
AreDistinct-swap xs ys a = distinct-append ys xs (AreDistinct-right xs ys a) (AreDistinct-left xs ys a) (λ x h. grind (arith, distinct-apart xs ys a x))

pub AreDistinct-push : (x : ℕ) (xs : List ℕ) → AreDistinct xs → is_in x xs ≡ false → AreDistinct (xs ++ x ∷ [])
AreDistinct-push x xs a h = distinct-append xs (x ∷ []) a ((λ h. h), tt) (λ y k. grind arith)

-- what `without` keeps

pub in_without : (x f : ℕ) (xs : List ℕ) → is_in x (without f xs) ≡ cond (f == x) false (is_in x xs)
in_without x f [] = grind arith
in_without x f (y ∷ xs) = grind (arith, in_without x f xs)

pub AreDistinct-without : (f : ℕ) (xs : List ℕ) → AreDistinct xs → AreDistinct (without f xs)
AreDistinct-without f xs a = AreDistinct-filter (λ g. not (g == f)) xs a

pub without_absent : (f : ℕ) (xs : List ℕ) → is_in f xs ≡ false → without f xs ≡ xs
without_absent f [] h = refl
without_absent f (y ∷ xs) h = grind (arith, without_absent f xs)

-- the queues stay distinct

pub distinct_deleted : (f : ℕ) (ws ts : List ℕ) → AreDistinct (ws ++ ts) → AreDistinct (ws ++ without f ts)
distinct_deleted f ws ts a =
    distinct-append ws (without f ts) (AreDistinct-left ws ts a) (AreDistinct-without f ts (AreDistinct-right ws ts a)) (λ x h. grind (arith, in_without, distinct-apart ws ts a x))

pub distinct_put : (f : ℕ) (ws ts : List ℕ) → AreDistinct (ws ++ ts) → is_in f (ws ++ ts) ≡ false → AreDistinct ((ws ++ f ∷ []) ++ ts)
distinct_put f ws ts a h =
    distinct-append _ ts (AreDistinct-push f ws (AreDistinct-left ws ts a) (not_in-parts f ws ts h).0) (AreDistinct-right ws ts a) (λ x k. grind (arith, common_steps, distinct-apart ws ts a x))

pub distinct_undeleted : (f : ℕ) (ws ts : List ℕ) → AreDistinct (ws ++ ts) → is_in f ws ≡ false → AreDistinct ((ws ++ f ∷ []) ++ without f ts)
distinct_undeleted f ws ts a h = distinct_put f ws (without f ts) (distinct_deleted f ws ts a) (grind (arith, common_steps, in_without))

pub distinct_taken : (front rest ts : List ℕ) → AreDistinct ((front ++ rest) ++ ts) → AreDistinct (rest ++ (ts ++ front))
distinct_taken front rest ts a = AreDistinct-swap (ts ++ front) rest (rw append_assoc (AreDistinct-swap (front ++ rest) ts a))

-- of distinct files there is one less
pub length-without : (f : ℕ) (xs : List ℕ) → AreDistinct xs → is_in f xs ≡ true → length (without f xs) + 1 ≡ length xs
length-without f [] d h = grind arith
length-without f (y ∷ xs) d h = grind (arith, length-without f xs d.1, without_absent, not_in y xs d.0)

-- by the test of the queues
pub list_any_flip : (x : ℕ) (xs : List ℕ) → is_in x xs ≡ list_any (λ g. g == x) xs
list_any_flip x [] = refl
list_any_flip x (y ∷ ys) = grind (arith, list_any_flip x ys)

-- a file that is taken does not wait
pub taken_waits_not : (ws ts : List ℕ) (x : ℕ) → AreDistinct (ws ++ ts) → is_in x ts ≡ true → is_in x ws ≡ false
taken_waits_not ws ts x d h = distinct-apart ts ws (AreDistinct-swap ws ts d) x h

-- a part of distinct files
pub AreDistinct-take : (n : ℕ) (xs : List ℕ) → AreDistinct xs → AreDistinct (take n xs)
AreDistinct-take n xs a = AreDistinct-left (take n xs) (drop n xs) (rw take-append-drop a)

-- the last of distinct files is none of the others
pub last_is_new : (x : ℕ) (xs : List ℕ) → AreDistinct (xs ++ x ∷ []) → is_in x xs ≡ false
last_is_new x xs a = taken_waits_not xs (x ∷ []) x a (grind arith)
