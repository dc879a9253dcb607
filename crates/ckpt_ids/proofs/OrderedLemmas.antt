-- What holds of lists in order. The principle: two lists in a strict order that have the same elements are equal.
use Rattle.ckpt_ids.proofs.Names.{common_steps, ◌≡◌, ℕ, zero, suc, length, get_or, ◌<◌, Bool, true, false, eqb, List, [], ◌∷◌, ◌++◌, map, refl, sym, ap, subst, ◌∙◌, ◌⊎◌, inl, inr, arith, ◌||◌, ◌&&◌}
use Rattle.ckpt_ids.proofs.Names.{filter, list_any, flat_map, cases_Bool, both_ways, cond-false, eq-eqb, eqb-true, IsIn, AreDistinct, ComesBefore, IsInOrder, put, put_once, in_order, in_order_once}
use Rattle.ckpt_ids.proofs.Names.{IsStrictOrder}

-- membership

pub IsIn-append_left : {X : Type 0} (x : X) (xs ys : List X) → IsIn x xs → IsIn x (xs ++ ys)
IsIn-append_left x [] ys h = absurd h
IsIn-append_left x (y ∷ xs) ys h = grind (arith, common_steps, IsIn-append_left x xs ys)

pub IsIn-append_right : {X : Type 0} (x : X) (xs ys : List X) → IsIn x ys → IsIn x (xs ++ ys)
IsIn-append_right x [] ys h = h
IsIn-append_right x (y ∷ xs) ys h = inr (IsIn-append_right x xs ys h)

pub IsIn-append_cases : {X : Type 0} (x : X) (xs ys : List X) → IsIn x (xs ++ ys) → IsIn x xs ⊎ IsIn x ys
IsIn-append_cases x [] ys h = inr h
IsIn-append_cases x (y ∷ xs) ys h = grind (arith, common_steps, IsIn-append_cases x xs ys)

pub IsIn-map : {X Y : Type 0} (f : X → Y) (x : X) (xs : List X) → IsIn x xs → IsIn (f x) (map f xs)
IsIn-map f x [] h = absurd h
IsIn-map f x (y ∷ xs) h = grind (arith, common_steps, IsIn-map f x xs)

pub IsIn-from_map : {X Y : Type 0} (f : X → Y) (y : Y) (xs : List X) → IsIn y (map f xs) → (x : X) × IsIn x xs × (y ≡ f x)
IsIn-from_map f y [] h = absurd h
IsIn-from_map f y (x ∷ xs) h = grind (arith, common_steps, IsIn-from_map f y xs)

pub IsIn-flat_map : {X Y : Type 0} (f : X → List Y) (x : X) (y : Y) (xs : List X) → IsIn x xs → IsIn y (f x) → IsIn y (flat_map f xs)
IsIn-flat_map f x y [] h k = absurd h
IsIn-flat_map f x y (z ∷ xs) h k = grind (arith, common_steps, IsIn-append_left y (f z) (flat_map f xs), IsIn-append_right y (f z) (flat_map f xs), IsIn-flat_map f x y xs)

pub IsIn-from_flat_map : {X Y : Type 0} (f : X → List Y) (y : Y) (xs : List X) → IsIn y (flat_map f xs) → (x : X) × IsIn x xs × IsIn y (f x)
IsIn-from_flat_map f y [] h = absurd h
IsIn-from_flat_map f y (x ∷ xs) h = grind (arith, common_steps, IsIn-append_cases y (f x) (flat_map f xs), IsIn-from_flat_map f y xs)

-- of a list with one element
pub only_one : {X : Type 0} (x y : X) → IsIn x (y ∷ []) → x ≡ y
only_one x y (inl e) = e
only_one x y (inr n) = absurd n

-- the place of an element
pub IsIn-place : {X : Type 0} (x : X) (xs : List X) → IsIn x xs → (k : ℕ) × (k < length xs) × (get_or xs k x ≡ x)
IsIn-place x [] h = absurd h
IsIn-place x (y ∷ xs) (inl e) = (0, omega arith, sym e)
IsIn-place x (y ∷ xs) (inr h) = let p = IsIn-place x xs h in let within : p.0 < length xs = p.1 in (suc p.0, omega arith, p.2)

pub IsIn-get_or : {X : Type 0} (xs : List X) (k : ℕ) (d : X) → k < length xs → IsIn (get_or xs k d) xs
IsIn-get_or [] k d h = absurd (omega arith)
IsIn-get_or (x ∷ xs) zero d h = inl refl
IsIn-get_or (x ∷ xs) (suc k) d h = inr (IsIn-get_or xs k d (omega arith))

-- what a loop reads
pub IsIn-at : {X : Type 0} (xs : List X) (i : ℕ) (x : X) → i < length xs → x ≡ get_or xs i x → IsIn x xs
IsIn-at {X} xs i x within at = let P : X → Type 0 = λ y. IsIn y xs in subst P (sym at) (IsIn-get_or xs i x within)

-- what a filter keeps
pub IsIn-filter : {X : Type 0} (p : X → Bool) (x : X) (xs : List X) → IsIn x xs → p x ≡ true → IsIn x (filter p xs)
IsIn-filter p x [] h t = absurd h
IsIn-filter p x (y ∷ xs) h t = grind (arith, common_steps, IsIn-filter p x xs)

pub IsIn-from_filter : {X : Type 0} (p : X → Bool) (x : X) (xs : List X) → IsIn x (filter p xs) → IsIn x xs × (p x ≡ true)
IsIn-from_filter p x [] h = absurd h
IsIn-from_filter p x (y ∷ xs) h = grind (arith, common_steps, IsIn-from_filter p x xs)

-- a filter that keeps each element
pub filter-all : {X : Type 0} (p : X → Bool) (xs : List X) → ((x : X) → IsIn x xs → p x ≡ true) → filter p xs ≡ xs
filter-all p [] e = refl
filter-all p (x ∷ xs) e = grind (arith, common_steps, e, filter-all p xs)

-- and one that keeps none
pub filter-none : {X : Type 0} (p : X → Bool) (xs : List X) → ((x : X) → IsIn x xs → p x ≡ false) → filter p xs ≡ []
filter-none p [] e = refl
filter-none p (x ∷ xs) e = cond-false (p x) (x ∷ filter p xs) (filter p xs) (e x (inl refl)) ∙ filter-none p xs (λ y h. e y (inr h))

-- one filter after the other
pub filter-filter : {X : Type 0} (p q : X → Bool) (xs : List X) → filter p (filter q xs) ≡ filter (λ x. q x && p x) xs
filter-filter p q [] = refl
filter-filter p q (x ∷ xs) = grind (arith, common_steps, filter-filter p q xs)

-- two tests that agree on the elements keep the same
pub filter-same : {X : Type 0} (p q : X → Bool) (xs : List X) → ((x : X) → IsIn x xs → p x ≡ q x) → filter p xs ≡ filter q xs
filter-same p q [] e = refl
filter-same p q (x ∷ xs) e = grind (arith, common_steps, e, filter-same p q xs)

-- a test that some element passes
pub list_any-from_IsIn : {X : Type 0} (p : X → Bool) (x : X) (xs : List X) → IsIn x xs → p x ≡ true → list_any p xs ≡ true
list_any-from_IsIn p x [] h t = absurd h
list_any-from_IsIn p x (y ∷ xs) h t = grind (arith, common_steps, list_any-from_IsIn p x xs)

pub IsIn-from_list_any : {X : Type 0} (p : X → Bool) (xs : List X) → list_any p xs ≡ true → (x : X) × IsIn x xs × (p x ≡ true)
IsIn-from_list_any p [] h = grind (arith, common_steps)
IsIn-from_list_any p (y ∷ xs) h = grind (arith, common_steps, IsIn-from_list_any p xs)

pub list_any-none : {X : Type 0} (p : X → Bool) (xs : List X) → ((x : X) → IsIn x xs → p x ≡ false) → list_any p xs ≡ false
list_any-none p [] f = refl
list_any-none p (x ∷ xs) f = ap (λ b. b || list_any p xs) (f x (inl refl)) ∙ list_any-none p xs (λ y h. f y (inr h))

-- and then each fails it
pub fails-from_list_any : {X : Type 0} (p : X → Bool) (xs : List X) → list_any p xs ≡ false → (x : X) → IsIn x xs → p x ≡ false
fails-from_list_any p xs none x h = grind (arith, common_steps, list_any-from_IsIn p x xs, cases_Bool)

-- the test for being in a list of numbers
pub IsIn-from_test : (f : ℕ) (xs : List ℕ) → list_any (λ g. eqb f g) xs ≡ true → IsIn f xs
IsIn-from_test f xs h = grind (arith, common_steps, IsIn-from_list_any (λ g. eqb f g) xs h, eqb-true)

-- and the other way round
pub test-from_IsIn : (f : ℕ) (xs : List ℕ) → IsIn f xs → list_any (λ g. eqb f g) xs ≡ true
test-from_IsIn f xs h = list_any-from_IsIn (λ g. eqb f g) f xs h (eq-eqb f f refl)

-- and if the test fails
pub not_in-from_test : (f : ℕ) (xs : List ℕ) → list_any (λ g. eqb f g) xs ≡ false → IsIn f xs → ⊥
not_in-from_test f xs e h = both_ways (list_any (λ g. eqb f g) xs) e (test-from_IsIn f xs h)

-- order

pub ComesBefore-at : {X : Type 0} (before : X → X → Bool) (x y : X) (xs : List X) → ComesBefore before x xs → IsIn y xs → before x y ≡ true
ComesBefore-at before x y [] c h = absurd h
ComesBefore-at before x y (z ∷ xs) c h = grind (arith, common_steps, ComesBefore-at before x y xs)

pub IsInOrder-at : {X : Type 0} (before : X → X → Bool) (xs : List X) (i j : ℕ) (d : X) → IsInOrder before xs → i < j → j < length xs → before (get_or xs i d) (get_or xs j d) ≡ true
IsInOrder-at before [] i j d a h k = absurd (omega arith)
IsInOrder-at before (x ∷ xs) i zero d a h k = absurd (omega arith)
IsInOrder-at before (x ∷ xs) zero (suc j) d a h k = grind (arith, common_steps, ComesBefore-at before x (get_or xs j d) xs, IsIn-get_or xs j d)
IsInOrder-at before (x ∷ xs) (suc i) (suc j) d a h k = IsInOrder-at before xs i j d a.1 (omega arith) (omega arith)

pub ComesBefore-from : {X : Type 0} (before : X → X → Bool) (x : X) (xs : List X) → ((y : X) → IsIn y xs → before x y ≡ true) → ComesBefore before x xs
ComesBefore-from before x [] f = tt
ComesBefore-from before x (y ∷ xs) f = (f y (inl refl), ComesBefore-from before x xs (λ z h. f z (inr h)))

pub IsInOrder-append : {X : Type 0} (before : X → X → Bool) (xs ys : List X) → IsInOrder before xs → IsInOrder before ys → ((x y : X) → IsIn x xs → IsIn y ys → before x y ≡ true)
    → IsInOrder before (xs ++ ys)
IsInOrder-append before [] ys a b f = b
IsInOrder-append before (x ∷ xs) ys a b f =
    let rest = IsInOrder-append before xs ys a.1 b (λ u v h k. f u v (inr h) k) in
    (ComesBefore-from before x (xs ++ ys) (λ z h. grind (arith, common_steps, ComesBefore-at before x z xs, f x z, IsIn-append_cases z xs ys h)), rest)

pub IsInOrder-filter : {X : Type 0} (before : X → X → Bool) (p : X → Bool) (xs : List X) → IsInOrder before xs → IsInOrder before (filter p xs)
IsInOrder-filter before p [] a = tt
IsInOrder-filter before p (x ∷ xs) a =
    grind (arith, common_steps, ComesBefore-from before x (filter p xs) (λ z h. ComesBefore-at before x z xs a.0 (IsIn-from_filter p z xs h).0), IsInOrder-filter before p xs)

-- a change that keeps what the order reads keeps the order
pub IsInOrder-map : {X Y : Type 0} (before : X → X → Bool) (behind : Y → Y → Bool) (f : X → Y) (xs : List X) → ((x y : X) → before x y ≡ true → behind (f x) (f y) ≡ true) → IsInOrder before xs
    → IsInOrder behind (map f xs)
IsInOrder-map before behind f [] keeps a = tt
IsInOrder-map {X} {Y} before behind f (x ∷ xs) keeps a =
    let first : (z : Y) → IsIn z (map f xs) → behind (f x) z ≡ true = λ z h. let q = IsIn-from_map f z xs h in ap (behind (f x)) q.2 ∙ keeps x q.0 (ComesBefore-at before x q.0 xs a.0 q.1) in
    (ComesBefore-from behind (f x) (map f xs) first, IsInOrder-map before behind f xs keeps a.1)

-- the principle

same_heads : {X : Type 0} {before : X → X → Bool} (o : IsStrictOrder before) (x y : X) (xs ys : List X) → ComesBefore before x xs → ComesBefore before y ys → IsIn x (y ∷ ys) → IsIn y (x ∷ xs) → x ≡ y
same_heads o x y xs ys a b h k = grind (arith, common_steps, ComesBefore-at, o.irreflexive, o.transitive)

pub in_tail : {X : Type 0} {before : X → X → Bool} (o : IsStrictOrder before) (x z : X) (xs ys : List X) → ComesBefore before x xs → IsIn z xs → IsIn z (x ∷ ys) → IsIn z ys
in_tail o x z xs ys a h k = grind (arith, common_steps, ComesBefore-at, o.irreflexive)

-- two lists in a strict order that have the same elements are equal
pub same_from_members : {X : Type 0} {before : X → X → Bool} (o : IsStrictOrder before) (xs ys : List X) → IsInOrder before xs → IsInOrder before ys → ((z : X) → IsIn z xs → IsIn z ys)
    → ((z : X) → IsIn z ys → IsIn z xs) → xs ≡ ys
same_from_members o [] [] a b f g = refl
same_from_members o [] (y ∷ ys) a b f g = absurd (g y (inl refl))
same_from_members o (x ∷ xs) [] a b f g = absurd (f x (inl refl))
same_from_members o (x ∷ xs) (y ∷ ys) a b f g =
    let e : x ≡ y = same_heads o x y xs ys a.0 b.0 (f x (inl refl)) (g y (inl refl)) in
    rw (e, same_from_members o xs ys a.1 b.1 (λ z h. in_tail o x z xs ys a.0 h (rw e (f z (inr h)))) (λ z h. in_tail o x z ys xs (rw e b.0) h (g z (inr h)))) refl

-- putting one more in its place

pub IsIn-put_itself : {X : Type 0} (before : X → X → Bool) (x : X) (xs : List X) → IsIn x (put before x xs)
IsIn-put_itself before x [] = inl refl
IsIn-put_itself before x (y ∷ xs) = grind (arith, common_steps, IsIn-put_itself before x xs)

pub IsIn-put : {X : Type 0} (before : X → X → Bool) (x z : X) (xs : List X) → IsIn z xs → IsIn z (put before x xs)
IsIn-put before x z [] h = absurd h
IsIn-put before x z (y ∷ xs) h = grind (arith, common_steps, IsIn-put before x z xs)

pub IsIn-put_cases : {X : Type 0} (before : X → X → Bool) (x z : X) (xs : List X) → IsIn z (put before x xs) → (z ≡ x) ⊎ IsIn z xs
IsIn-put_cases before x z [] h = h
IsIn-put_cases before x z (y ∷ xs) h = grind (arith, common_steps, IsIn-put_cases before x z xs)

-- if x comes before each element that does not come before x
pub IsInOrder-put_between : {X : Type 0} (before : X → X → Bool) → ((x y z : X) → before x y ≡ true → before y z ≡ true → before x z ≡ true) → (x : X) (xs : List X)
    → ((y : X) → IsIn y xs → before y x ≡ false → before x y ≡ true) → IsInOrder before xs → IsInOrder before (put before x xs)
IsInOrder-put_between before transitive x [] turns a = (tt, tt)
IsInOrder-put_between {X} before transitive x (y ∷ xs) turns a =
    let later : before y x ≡ true → (z : X) → IsIn z (put before x xs) → before y z ≡ true = λ e z h. grind (arith, common_steps, ComesBefore-at before y z xs a.0, IsIn-put_cases before x z xs h) in
    let after : before x y ≡ true → (z : X) → IsIn z xs → before x z ≡ true = λ e z h. transitive x y z e (ComesBefore-at before y z xs a.0 h) in
    grind (arith, common_steps, later, after, turns, ComesBefore-from, IsInOrder-put_between before transitive x xs)

-- and if x is not there
pub IsInOrder-put : {X : Type 0} {before : X → X → Bool} (o : IsStrictOrder before) (x : X) (xs : List X) → (IsIn x xs → ⊥) → IsInOrder before xs → IsInOrder before (put before x xs)
IsInOrder-put {X} {before} o x xs new a = IsInOrder-put_between before o.transitive x xs (λ y h e. grind (arith, common_steps, o.total x y, new, cases_Bool (before x y))) a

-- the same, each once

pub IsIn-put_once : {X : Type 0} {before : X → X → Bool} (o : IsStrictOrder before) (x z : X) (xs : List X) → (z ≡ x) ⊎ IsIn z xs → IsIn z (put_once before x xs)
IsIn-put_once o x z [] h = h
IsIn-put_once o x z (y ∷ xs) h = grind (arith, common_steps, IsIn-put_once o x z xs, o.total x y)

pub IsIn-put_once_cases : {X : Type 0} (before : X → X → Bool) (x z : X) (xs : List X) → IsIn z (put_once before x xs) → (z ≡ x) ⊎ IsIn z xs
IsIn-put_once_cases before x z [] h = h
IsIn-put_once_cases before x z (y ∷ xs) h = grind (arith, common_steps, IsIn-put_once_cases before x z xs)

pub IsInOrder-put_once : {X : Type 0} {before : X → X → Bool} (o : IsStrictOrder before) (x : X) (xs : List X) → IsInOrder before xs → IsInOrder before (put_once before x xs)
IsInOrder-put_once o x [] a = (tt, tt)
IsInOrder-put_once {X} {before} o x (y ∷ xs) a =
    let later : before y x ≡ true → (z : X) → IsIn z (put_once before x xs) → before y z ≡ true =
    λ e z h. grind (arith, common_steps, ComesBefore-at before y z xs a.0, IsIn-put_once_cases before x z xs h) in
    let after : before x y ≡ true → (z : X) → IsIn z xs → before x z ≡ true = λ e z h. o.transitive x y z e (ComesBefore-at before y z xs a.0 h) in
    grind (arith, common_steps, later, after, ComesBefore-from, IsInOrder-put_once o x xs)

-- `in_order_once` is in order, and has the elements of the list
pub IsInOrder-in_order_once : {X : Type 0} {before : X → X → Bool} (o : IsStrictOrder before) (xs : List X) → IsInOrder before (in_order_once before xs)
IsInOrder-in_order_once o [] = tt
IsInOrder-in_order_once {X} {before} o (x ∷ xs) = IsInOrder-put_once o x (in_order_once before xs) (IsInOrder-in_order_once o xs)

pub IsIn-in_order_once : {X : Type 0} {before : X → X → Bool} (o : IsStrictOrder before) (z : X) (xs : List X) → IsIn z xs → IsIn z (in_order_once before xs)
IsIn-in_order_once o z [] h = absurd h
IsIn-in_order_once {X} {before} o z (x ∷ xs) h = grind (arith, common_steps, IsIn-put_once o x z (in_order_once before xs), IsIn-in_order_once o z xs)

pub IsIn-from_in_order_once : {X : Type 0} (before : X → X → Bool) (z : X) (xs : List X) → IsIn z (in_order_once before xs) → IsIn z xs
IsIn-from_in_order_once before z [] h = h
IsIn-from_in_order_once before z (x ∷ xs) h = grind (arith, common_steps, IsIn-put_once_cases before x z (in_order_once before xs) h, IsIn-from_in_order_once before z xs)

-- `in_order` has the elements of the list
pub IsIn-in_order : {X : Type 0} (before : X → X → Bool) (z : X) (xs : List X) → IsIn z xs → IsIn z (in_order before xs)
IsIn-in_order before z [] h = absurd h
IsIn-in_order before z (x ∷ xs) h = grind (arith, common_steps, IsIn-put_itself before x (in_order before xs), IsIn-put before x z (in_order before xs), IsIn-in_order before z xs)

pub IsIn-from_in_order : {X : Type 0} (before : X → X → Bool) (z : X) (xs : List X) → IsIn z (in_order before xs) → IsIn z xs
IsIn-from_in_order before z [] h = h
IsIn-from_in_order before z (x ∷ xs) h = grind (arith, common_steps, IsIn-put_cases before x z (in_order before xs) h, IsIn-from_in_order before z xs)

-- no element twice

pub AreDistinct-append : {X : Type 0} (xs ys : List X) → AreDistinct xs → AreDistinct ys → ((x : X) → IsIn x xs → IsIn x ys → ⊥) → AreDistinct (xs ++ ys)
AreDistinct-append [] ys a b apart = b
AreDistinct-append (x ∷ xs) ys a b apart = grind (arith, common_steps, IsIn-append_cases x xs ys, apart, AreDistinct-append xs ys)

pub AreDistinct-left : {X : Type 0} (xs ys : List X) → AreDistinct (xs ++ ys) → AreDistinct xs
AreDistinct-left [] ys a = tt
AreDistinct-left (x ∷ xs) ys a = (λ h. a.0 (IsIn-append_left x xs ys h), AreDistinct-left xs ys a.1)

pub AreDistinct-right : {X : Type 0} (xs ys : List X) → AreDistinct (xs ++ ys) → AreDistinct ys
AreDistinct-right [] ys a = a
AreDistinct-right (x ∷ xs) ys a = AreDistinct-right xs ys a.1

-- two parts share no element
pub AreDistinct-apart : {X : Type 0} (xs ys : List X) → AreDistinct (xs ++ ys) → (x : X) → IsIn x xs → IsIn x ys → ⊥
AreDistinct-apart [] ys a x h k = absurd h
AreDistinct-apart (y ∷ xs) ys a x h k = grind (arith, common_steps, IsIn-append_right x xs ys k, AreDistinct-apart xs ys a.1 x)

pub AreDistinct-filter : {X : Type 0} (p : X → Bool) (xs : List X) → AreDistinct xs → AreDistinct (filter p xs)
AreDistinct-filter p [] a = tt
AreDistinct-filter p (x ∷ xs) a = grind (arith, common_steps, IsIn-from_filter p x xs, AreDistinct-filter p xs a.1)

-- a list in a strict order
pub AreDistinct-from_order : {X : Type 0} {before : X → X → Bool} (o : IsStrictOrder before) (xs : List X) → IsInOrder before xs → AreDistinct xs
AreDistinct-from_order o [] a = tt
AreDistinct-from_order {X} {before} o (x ∷ xs) a = (λ h. both_ways (before x x) (o.irreflexive x) (ComesBefore-at before x x xs a.0 h), AreDistinct-from_order o xs a.1)
