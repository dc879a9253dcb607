-- Records put in rising number: what a change of the groups does to them.
use Rattle.ckpt_core.proofs.Names.{◌≡◌, ◌<◌, Bool, true, false, cond, List, [], ◌∷◌, ◌++◌, map, refl, sym, ap, subst, ◌∙◌, inl, inr, ⊎_elim, arith, filter, cases_Bool, cond_both, lt-ltb, ltb-true}
use Rattle.ckpt_core.proofs.Names.{ltb-false, le-ltb, IsIn, ComesBefore, IsInOrder, put, in_order, Record, IsIn-append_left, IsIn-append_right, IsIn-append_cases, IsIn-from_map, IsIn-filter}
use Rattle.ckpt_core.proofs.Names.{IsIn-from_filter, ComesBefore-at, ComesBefore-from, IsInOrder-filter, IsIn-put, IsIn-put_cases, IsIn-in_order, IsIn-from_in_order, id_before, common_steps}

-- no record has the number of x
abbrev pub IsNew : Record → List Record → Type 0
IsNew x xs = (y : Record) → IsIn y xs → x.id ≡ y.id → ⊥

-- no two records have one number
abbrev pub AreApart : List Record → Type 0
AreApart [] = Unit {0}
AreApart (x ∷ xs) = IsNew x xs × AreApart xs

before_itself : (r s : Record) → id_before r s ≡ true → r.id ≡ s.id → ⊥
before_itself r s h e = omega (arith, ltb-true r.id s.id h)

-- putting a new one in its place keeps the order

put_in_order : (x : Record) (xs : List Record) → IsNew x xs → IsInOrder id_before xs → IsInOrder id_before (put id_before x xs)
put_in_order x [] new a = (tt, tt)
put_in_order x (y ∷ xs) new a = cond_both (id_before y x) (y ∷ put id_before x xs) (x ∷ y ∷ xs) (IsInOrder id_before) (λ e. (
  ComesBefore-from id_before y (put id_before x xs) (λ z h. ⊎_elim (λ k. ap (id_before y) k ∙ e) (λ k. ComesBefore-at id_before y z xs a.0 k)
      (IsIn-put_cases id_before x z xs h)),
  put_in_order x xs (λ z h. new z (inr h)) a.1,
)) (λ e. let ne : x.id ≡ y.id → ⊥ = new y (inl refl) in
    let xy : x.id < y.id = omega (arith, ltb-false y.id x.id e) in (
      ComesBefore-from id_before x (y ∷ xs) (λ z h. ⊎_elim (λ k. ap (id_before x) k ∙ lt-ltb x.id y.id xy) (λ k. lt-ltb x.id z.id
          (omega (arith, ltb-true y.id z.id (ComesBefore-at id_before y z xs a.0 k)))) h),
      a,
    ))

pub in_order-from_apart : (xs : List Record) → AreApart xs → IsInOrder id_before (in_order id_before xs)
in_order-from_apart [] a = tt
in_order-from_apart (x ∷ xs) a = put_in_order x (in_order id_before xs) (λ y h. a.0 y (IsIn-from_in_order id_before y xs h)) (in_order-from_apart xs a.1)

-- and what is in order was apart

put_was_in_order : (x : Record) (xs : List Record) → IsInOrder id_before (put id_before x xs) → IsNew x xs × IsInOrder id_before xs
put_was_in_order x [] a = (λ y h. absurd h, tt)
put_was_in_order x (y ∷ xs) a =
    let P : Bool → Type 0 = λ b. IsInOrder id_before (cond b (y ∷ put id_before x xs) (x ∷ y ∷ xs)) in let Goal : Type 0 = IsNew x (y ∷ xs) × IsInOrder id_before (y ∷ xs) in
    let later : id_before y x ≡ true → Goal = λ (e : id_before y x ≡ true). let b : IsInOrder id_before (y ∷ put id_before x xs) = subst P e a in let rest = put_was_in_order x xs b.1 in
    let new : IsNew x (y ∷ xs) = λ z h. ⊎_elim (λ (k : z ≡ y). λ (q : x.id ≡ z.id). before_itself y x e (sym (ap (λ w. w.id) k) ∙ sym q)) (λ (k : IsIn z xs). rest.0 z k) h in
    (new, (ComesBefore-from id_before y xs (λ z h. ComesBefore-at id_before y z (put id_before x xs) b.0 (IsIn-put id_before x z xs h)), rest.1)) in
    let here : id_before y x ≡ false → Goal = λ (e : id_before y x ≡ false). let b : IsInOrder id_before (x ∷ y ∷ xs) = subst P e a in
    (λ z h q. before_itself x z (ComesBefore-at id_before x z (y ∷ xs) b.0 h) q, b.1) in ⊎_elim later here (cases_Bool (id_before y x))

pub apart-from_in_order : (xs : List Record) → IsInOrder id_before (in_order id_before xs) → AreApart xs
apart-from_in_order [] a = tt
apart-from_in_order (x ∷ xs) a = let p = put_was_in_order x (in_order id_before xs) a in (λ y h. p.0 y (IsIn-in_order id_before y xs h), apart-from_in_order xs p.1)

-- the principle, for records

first_is_same : (x y : Record) (xs ys : List Record) → ComesBefore id_before x xs → ComesBefore id_before y ys → IsIn x (y ∷ ys) → IsIn y (x ∷ xs) → x ≡ y
first_is_same x y xs ys a b (inl e) k = e
first_is_same x y xs ys a b (inr h) (inl e) = sym e
first_is_same x y xs ys a b (inr h) (inr k) = absurd (omega (arith, ltb-true y.id x.id (ComesBefore-at id_before y x ys b h), ltb-true x.id y.id (ComesBefore-at id_before x y xs a k)))

not_first : (x z : Record) (xs ys : List Record) → ComesBefore id_before x xs → IsIn z xs → IsIn z (x ∷ ys) → IsIn z ys
not_first x z xs ys a h (inl e) = absurd (before_itself x z (ComesBefore-at id_before x z xs a h) (ap (λ w. w.id) (sym e)))
not_first x z xs ys a h (inr k) = k

pub same_records : (xs ys : List Record) → IsInOrder id_before xs → IsInOrder id_before ys → ((z : Record) → IsIn z xs → IsIn z ys) → ((z : Record) → IsIn z ys → IsIn z xs) → xs ≡ ys
same_records [] [] a b f g = refl
same_records [] (y ∷ ys) a b f g = absurd (g y (inl refl))
same_records (x ∷ xs) [] a b f g = absurd (f x (inl refl))
same_records (x ∷ xs) (y ∷ ys) a b f g = grind (arith, common_steps, first_is_same, not_first, same_records xs ys a.1 b.1)

pub in_order_same : (xs ys : List Record) → AreApart xs → AreApart ys → ((z : Record) → IsIn z xs → IsIn z ys) → ((z : Record) → IsIn z ys → IsIn z xs) →
    in_order id_before xs ≡ in_order id_before ys
in_order_same xs ys a b f g = grind (arith, common_steps, IsIn-from_in_order, IsIn-in_order, in_order-from_apart, same_records)

-- changes

pub apart-filter : (p : Record → Bool) (xs : List Record) → AreApart xs → AreApart (filter p xs)
apart-filter p [] a = tt
apart-filter p (x ∷ xs) a =
    let rest : AreApart (filter p xs) = apart-filter p xs a.1 in cond_both (p x) (x ∷ filter p xs) (filter p xs) AreApart (λ e. (λ y h. a.0 y (IsIn-from_filter p y xs h).0, rest)) (λ e. rest)

pub in_order-filter : (p : Record → Bool) (xs : List Record) → AreApart xs → in_order id_before (filter p xs) ≡ filter p (in_order id_before xs)
in_order-filter p xs a = same_records (in_order id_before (filter p xs)) (filter p (in_order id_before xs)) (in_order-from_apart (filter p xs) (apart-filter p xs a))
    (IsInOrder-filter id_before p (in_order id_before xs) (in_order-from_apart xs a)) (λ z h. let k = IsIn-from_filter p z xs (IsIn-from_in_order id_before z (filter p xs) h) in
    IsIn-filter p z (in_order id_before xs) (IsIn-in_order id_before z xs k.0) k.1) (λ z h. let k = IsIn-from_filter p z (in_order id_before xs) h in
    IsIn-in_order id_before z (filter p xs) (IsIn-filter p z xs (IsIn-from_in_order id_before z xs k.0) k.1))

pub apart-map : (f : Record → Record) → ((r : Record) → (f r).id ≡ r.id) → (xs : List Record) → AreApart xs → AreApart (map f xs)
apart-map f same [] a = tt
apart-map f same (x ∷ xs) a = (λ y h e. let k = IsIn-from_map f y xs h in a.0 k.0 k.1 (sym (same x) ∙ e ∙ ap (λ w. w.id) k.2 ∙ same k.0), apart-map f same xs a.1)

put-map : (f : Record → Record) → ((r : Record) → (f r).id ≡ r.id) → (x : Record) (xs : List Record) → put id_before (f x) (map f xs) ≡ map f (put id_before x xs)
put-map f same x [] = refl
put-map f same x (y ∷ xs) = grind (arith, common_steps, put-map f same x xs)

pub in_order-map : (f : Record → Record) → ((r : Record) → (f r).id ≡ r.id) → (xs : List Record) → in_order id_before (map f xs) ≡ map f (in_order id_before xs)
in_order-map f same [] = refl
in_order-map f same (x ∷ xs) = ap (put id_before (f x)) (in_order-map f same xs) ∙ put-map f same x (in_order id_before xs)

-- the newest comes last

pub put_last : (x : Record) (xs : List Record) → ((y : Record) → IsIn y xs → y.id < x.id) → put id_before x xs ≡ xs ++ x ∷ []
put_last x [] newest = refl
put_last x (y ∷ xs) newest = ap (λ b. cond b (y ∷ put id_before x xs) (x ∷ y ∷ xs)) (lt-ltb y.id x.id (newest y (inl refl))) ∙ ap (λ w. y ∷ w) (put_last x xs (λ z h. newest z (inr h)))

put_before_last : (a x : Record) (xs : List Record) → a.id < x.id → put id_before a (xs ++ x ∷ []) ≡ put id_before a xs ++ x ∷ []
put_before_last a x [] h = ap (λ b. cond b (x ∷ put id_before a []) (a ∷ x ∷ [])) (le-ltb x.id a.id (omega arith))
put_before_last a x (y ∷ xs) h = grind (arith, common_steps, put_before_last a x xs h)

pub in_order-newest : (x : Record) (xs ys : List Record) → ((y : Record) → IsIn y (xs ++ ys) → y.id < x.id) → in_order id_before ((xs ++ x ∷ []) ++ ys) ≡ in_order id_before (xs ++ ys) ++ x ∷ []
in_order-newest x [] ys newest = put_last x (in_order id_before ys) (λ y h. newest y (IsIn-from_in_order id_before y ys h))
in_order-newest x (a ∷ xs) ys newest = ap (put id_before a) (in_order-newest x xs ys (λ y h. newest y (inr h))) ∙ put_before_last a x (in_order id_before (xs ++ ys)) (newest a (inl refl))

pub apart-append : (xs ys : List Record) → AreApart xs → AreApart ys → ((x y : Record) → IsIn x xs → IsIn y ys → x.id ≡ y.id → ⊥) → AreApart (xs ++ ys)
apart-append [] ys a b f = b
apart-append (x ∷ xs) ys a b f =
    (λ y h. ⊎_elim (λ (k : IsIn y xs). a.0 y k) (λ (k : IsIn y ys). f x y (inl refl) k) (IsIn-append_cases y xs ys h), apart-append xs ys a.1 b (λ u v h k. f u v (inr h) k))

pub apart_left : (xs ys : List Record) → AreApart (xs ++ ys) → AreApart xs
apart_left [] ys a = tt
apart_left (x ∷ xs) ys a = (λ y h. a.0 y (IsIn-append_left y xs ys h), apart_left xs ys a.1)

pub apart_right : (xs ys : List Record) → AreApart (xs ++ ys) → AreApart ys
apart_right [] ys a = a
apart_right (x ∷ xs) ys a = apart_right xs ys a.1

pub apart_between : (xs ys : List Record) → AreApart (xs ++ ys) → (x y : Record) → IsIn x xs → IsIn y ys → x.id ≡ y.id → ⊥
apart_between [] ys a x y h k = absurd h
apart_between (z ∷ xs) ys a x y (inl e) k = λ q. a.0 y (IsIn-append_right y xs ys k) (ap (λ w. w.id) (sym e) ∙ q)
apart_between (z ∷ xs) ys a x y (inr h) k = apart_between xs ys a.1 x y h k
