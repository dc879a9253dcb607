-- How often the elements of a list pass a test, and what a filter leaves.
use Rattle.ckpt_registry.proofs.Names.{◌≡◌, ℕ, ◌+◌, ◌<◌, ◌≤◌, Bool, true, not, cond, ltb, ◌&&◌, List, [], ◌∷◌, ◌++◌, refl, sym, ap, ◌∙◌, ◌⊎◌, inl, inr, ⊎_elim, arith, count_by, filter, cases_lt, IsIn}
use Rattle.ckpt_registry.proofs.Names.{put_once, in_order_once, IsStrictOrder, AreDistinct, ascending_set, one_if, times, numbers_in_order, count_by-cons, count_by-append, counted-from_IsIn}
use Rattle.ckpt_registry.proofs.Names.{IsIn-from_counted, times-from_IsIn, times_at_most_once, IsIn-from_times, IsIn-append_left, IsIn-append_right, IsIn-append_cases, IsIn-filter, IsIn-from_filter}
use Rattle.ckpt_registry.proofs.Names.{IsInOrder-filter, IsInOrder-in_order_once, IsIn-in_order_once, IsIn-from_in_order_once, same_from_members, AreDistinct-append, AreDistinct-from_order}
use Rattle.ckpt_registry.proofs.Names.{common_steps}
use Rattle.std.proofs.lemmas.Bool.{cond_both}

module _ {X : Type 0} where
  -- the elements that pass both tests
  pub count_by-filter : (p q : X → Bool) (xs : List X) → count_by p (filter q xs) ≡ count_by (λ x. q x && p x) xs
  count_by-filter p q [] = refl
  count_by-filter p q (x ∷ xs) = grind (arith, count_by-filter p q xs, count_by-cons p x (filter q xs), count_by-cons (λ y. q y && p y) x xs)

  pub count_by-filter_le : (p q : X → Bool) (xs : List X) → count_by p (filter q xs) ≤ count_by p xs
  count_by-filter_le p q [] = omega arith
  count_by-filter_le p q (x ∷ xs) = grind (arith, count_by-filter_le p q xs, count_by-cons p x (filter q xs), count_by-cons p x xs)

module _ {X : Type 0} {before : X → X → Bool} (o : IsStrictOrder before) where
  count_by-put_once : (p : X → Bool) (x : X) (xs : List X) → (IsIn x xs → ⊥) → count_by p (put_once before x xs) ≡ one_if (p x) + count_by p xs
  count_by-put_once p x [] new = count_by-cons p x []
  count_by-put_once p x (y ∷ xs) new =
      cond_both (before y x) (y ∷ put_once before x xs) (cond (before x y) (x ∷ y ∷ xs) (y ∷ xs)) (λ zs. count_by p zs ≡ one_if (p x) + count_by p (y ∷ xs))
      (λ _. omega (arith, count_by-cons p y (put_once before x xs), count_by-put_once p x xs (λ h. new (inr h)), count_by-cons p y xs))
      (λ e. cond_both (before x y) (x ∷ y ∷ xs) (y ∷ xs) (λ zs. count_by p zs ≡ one_if (p x) + count_by p (y ∷ xs)) (λ _. count_by-cons p x (y ∷ xs)) (λ t. absurd (new (inl (o.total x y t e)))))

  -- a list whose elements differ keeps all of them when it is put in order
  pub count_by-in_order_once : (p : X → Bool) (xs : List X) → AreDistinct xs → count_by p (in_order_once before xs) ≡ count_by p xs
  count_by-in_order_once p [] a = refl
  count_by-in_order_once p (x ∷ xs) a =
      omega (arith, count_by-put_once p x (in_order_once before xs) (λ h. a.0 (IsIn-from_in_order_once before x xs h)), count_by-in_order_once p xs a.1, count_by-cons p x xs)

  -- a filter of the list in order is the filtered list in order
  pub in_order_once-filter : (q : X → Bool) (xs : List X) → in_order_once before (filter q xs) ≡ filter q (in_order_once before xs)
  in_order_once-filter q xs =
      same_from_members o _ _ (IsInOrder-in_order_once o (filter q xs)) (IsInOrder-filter before q (in_order_once before xs) (IsInOrder-in_order_once o xs))
      (λ z h. let k = IsIn-from_filter q z xs (IsIn-from_in_order_once before z (filter q xs) h) in IsIn-filter q z (in_order_once before xs) (IsIn-in_order_once o z xs k.0) k.1)
      (λ z h. let k = IsIn-from_filter q z (in_order_once before xs) h in IsIn-in_order_once o z (filter q xs) (IsIn-filter q z xs (IsIn-from_in_order_once before z xs k.0) k.1))

  -- whether two are one
  abbrev pub is_one : X → X → Bool
  is_one z x = not (before z x) && not (before x z)

  is_one-itself : (z : X) → is_one z z ≡ true
  is_one-itself z = ap (λ b. not b && not b) (o.irreflexive z)

  is_one-same : (z x : X) → is_one z x ≡ true → z ≡ x
  is_one-same z x h = o.total z x (grind arith) (grind arith)

  pub count_by-from_IsIn : (z : X) (xs : List X) → IsIn z xs → 0 < count_by (is_one z) xs
  count_by-from_IsIn z xs h = counted-from_IsIn (is_one z) z xs h (is_one-itself z)

  pub IsIn-from_count_by : (z : X) (xs : List X) → 0 < count_by (is_one z) xs → IsIn z xs
  IsIn-from_count_by z xs h = let q = IsIn-from_counted (is_one z) xs h in rw (is_one-same z q.0 q.2) q.1

module _ {X : Type 0} {before : X → X → Bool} (o : IsStrictOrder before) (xs ys zs : List X) (adds : (p : X → Bool) → count_by p ys ≡ count_by p xs + count_by p zs) where
  -- ys has the elements of xs and zs
  pub IsIn-from_added : (z : X) → IsIn z ys → IsIn z xs ⊎ IsIn z zs
  IsIn-from_added z h =
      ⊎_elim (λ k. inl (IsIn-from_count_by o z xs k)) (λ (k : count_by (is_one o z) xs ≤ 0). inr (IsIn-from_count_by o z zs (omega (arith, adds (is_one o z), count_by-from_IsIn o z ys h))))
      (cases_lt 0 (count_by (is_one o z) xs))

  pub IsIn-old_added : (z : X) → IsIn z xs → IsIn z ys
  IsIn-old_added z h = IsIn-from_count_by o z ys (omega (arith, adds (is_one o z), count_by-from_IsIn o z xs h))

  pub IsIn-new_added : (z : X) → IsIn z zs → IsIn z ys
  IsIn-new_added z h = IsIn-from_count_by o z ys (omega (arith, adds (is_one o z), count_by-from_IsIn o z zs h))

  -- in order, ys is xs with zs
  pub in_order_once-added : in_order_once before ys ≡ in_order_once before (in_order_once before xs ++ zs)
  in_order_once-added =
      same_from_members o _ _ (IsInOrder-in_order_once o ys) (IsInOrder-in_order_once o (in_order_once before xs ++ zs))
      (λ z h. IsIn-in_order_once o z (in_order_once before xs ++ zs)
      (⊎_elim (λ k. IsIn-append_left z (in_order_once before xs) zs (IsIn-in_order_once o z xs k)) (λ k. IsIn-append_right z (in_order_once before xs) zs k)
      (IsIn-from_added z (IsIn-from_in_order_once before z ys h))))
      (λ z h. IsIn-in_order_once o z ys (⊎_elim (λ k. IsIn-old_added z (IsIn-from_in_order_once before z xs k)) (λ k. IsIn-new_added z k)
      (IsIn-append_cases z (in_order_once before xs) zs (IsIn-from_in_order_once before z (in_order_once before xs ++ zs) h))))

  -- and none occurs twice, if none of zs does or is in xs
  pub count_by-added : ((p : X → Bool) → count_by p xs ≡ count_by p (in_order_once before xs)) → AreDistinct zs → ((z : X) → IsIn z (in_order_once before xs) → IsIn z zs → ⊥) → (p : X → Bool)
      → count_by p ys ≡ count_by p (in_order_once before ys)
  count_by-added once apart new p =
      let all : AreDistinct (in_order_once before xs ++ zs) = AreDistinct-append (in_order_once before xs) zs
      (AreDistinct-from_order o (in_order_once before xs) (IsInOrder-in_order_once o xs)) apart new in
      rw in_order_once-added (omega (arith, adds p, once p, count_by-in_order_once o p (in_order_once before xs ++ zs) all, count_by-append p (in_order_once before xs) zs))

-- filtered, none occurs twice
pub count_by-filtered : {X : Type 0} {before : X → X → Bool} (o : IsStrictOrder before) (q : X → Bool) (xs : List X) → ((p : X → Bool) → count_by p xs ≡ count_by p (in_order_once before xs))
    → (p : X → Bool) → count_by p (filter q xs) ≡ count_by p (in_order_once before (filter q xs))
count_by-filtered {X} {before} o q xs once p =
    count_by-filter p q xs ∙ once (λ x. q x && p x) ∙ sym (count_by-filter p q (in_order_once before xs)) ∙ ap (count_by p) (sym (in_order_once-filter o q xs))

-- a number of a list is once in its ascending set
pub times-ascending_set : (f : ℕ) (xs : List ℕ) → times f (ascending_set xs) ≡ one_if (ltb 0 (times f xs))
times-ascending_set f xs =
    let up : 0 < times f xs → 0 < times f (ascending_set xs) = λ h. times-from_IsIn f (ascending_set xs) (IsIn-in_order_once numbers_in_order f xs (IsIn-from_times f xs h)) in
    let down : 0 < times f (ascending_set xs) → 0 < times f xs = λ h. times-from_IsIn f xs (IsIn-from_in_order_once ltb f xs (IsIn-from_times f (ascending_set xs) h)) in
    let once : times f (ascending_set xs) ≤ 1 = times_at_most_once f (ascending_set xs) (AreDistinct-from_order numbers_in_order (ascending_set xs) (IsInOrder-in_order_once numbers_in_order xs)) in
    grind (arith, common_steps)
