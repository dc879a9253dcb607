-- Lists with the same elements in another order. Two lists in which each seat has the same elements in the same order are such lists.
use Rattle.ckpt_model.proofs.Names.{◌≡◌, ℕ, Bool, true, false, cond, eqb, List, [], ◌∷◌, ◌++◌, map, refl, sym, ap, subst, ◌∙◌, ◌⊎◌, arith, count_by, filter, cases_Bool, cond-true, cond-false}
use Rattle.ckpt_model.proofs.Names.{eqb-true, eq-eqb, map-append, IsIn, IsIn-append_left, IsIn-append_right, IsIn-append_cases, of_seat, SameBySeat, common_steps}

-- ys has the elements of xs, in some order
abbrev pub Rearranged : {X : Type 0} → List X → List X → Type 0
Rearranged [] ys = ys ≡ []
Rearranged {X} (x ∷ xs) ys = (front : List X) × (back : List X) × (ys ≡ front ++ x ∷ back) × Rearranged xs (front ++ back)

-- an element in the midst is first or one of the others
pub IsIn-midst : {X : Type 0} (y x : X) (front back : List X) → IsIn y (front ++ x ∷ back) → (y ≡ x) ⊎ IsIn y (front ++ back)
IsIn-midst y x front back h = grind (arith, common_steps, IsIn-append_left y front back, IsIn-append_right y front back, IsIn-append_cases y front (x ∷ back) h)

-- each element was there
pub IsIn-rearranged : {X : Type 0} (y : X) (xs ys : List X) → Rearranged xs ys → IsIn y ys → IsIn y xs
IsIn-rearranged {X} y [] ys e h = let P : List X → Type 0 = λ zs. IsIn y zs in subst P e h
IsIn-rearranged {X} y (x ∷ xs) ys r h = grind (arith, common_steps, IsIn-midst y x r.0 r.1, IsIn-rearranged y xs ((r.0) ++ (r.1)) r.3)

pub count_by-rearranged : {X : Type 0} (p : X → Bool) (xs ys : List X) → Rearranged xs ys → count_by p xs ≡ count_by p ys
count_by-rearranged p [] ys e = grind (arith, common_steps)
count_by-rearranged p (x ∷ xs) ys r = grind (arith, common_steps, count_by-rearranged p xs ((r.0) ++ (r.1)) r.3)

-- what comes of the elements is rearranged with them
pub Rearranged-map : {X Y : Type 0} (f : X → Y) (xs ys : List X) → Rearranged xs ys → Rearranged (map f xs) (map f ys)
Rearranged-map f [] ys e = grind (arith, common_steps)
Rearranged-map {X} {Y} f (x ∷ xs) ys r = grind (arith, common_steps, Rearranged-map f xs ((r.0) ++ (r.1)) r.3)

-- two parts of what came of a list came of two parts of it
parts-from_map : {X Y : Type 0} (f : X → Y) (front back : List Y) (zs : List X) → front ++ back ≡ map f zs
    → (first : List X) × (second : List X) × (zs ≡ first ++ second) × (front ≡ map f first) × (back ≡ map f second)
parts-from_map f [] back zs e = ([], zs, refl, refl, e)
parts-from_map f (y ∷ front) back [] e = absurd (cc)
parts-from_map {X} {Y} f (y ∷ front) back (z ∷ zs) e =
    let here : y ≡ f z = cc in
    let later : front ++ back ≡ map f zs = cc in
    let p = parts-from_map f front back zs later in
    (z ∷ p.0, p.1, ap (λ ws. z ∷ ws) p.2, ap (λ w. w ∷ front) here ∙ ap (λ ws. f z ∷ ws) p.3, p.4)

-- and a list rearranged after came of one rearranged before
pub Rearranged-from_map : {X Y : Type 0} (f : X → Y) (xs : List X) (ys : List Y) → Rearranged (map f xs) ys → (zs : List X) × (ys ≡ map f zs) × Rearranged xs zs
Rearranged-from_map f [] ys e = ([], e, refl)
Rearranged-from_map f (x ∷ xs) ys r =
    let rest = Rearranged-from_map f xs ((r.0) ++ (r.1)) r.3 in
    let p = parts-from_map f r.0 r.1 rest.0 rest.1 in
    ((p.0) ++ x ∷ p.1, grind (arith, common_steps, map-append), (p.0, p.1, refl, rw (← p.2) rest.2))

-- of one seat

pub of_seat-cons : {X : Type 0} (seat : ℕ) (x : ℕ × X) (xs : List (ℕ × X)) → of_seat seat (x ∷ xs) ≡ cond (eqb x.0 seat) (x.1 ∷ of_seat seat xs) (of_seat seat xs)
of_seat-cons {X} seat x xs = grind (arith, common_steps)

of_seat-its : {X : Type 0} (seat : ℕ) (x : ℕ × X) (xs : List (ℕ × X)) → eqb x.0 seat ≡ true → of_seat seat (x ∷ xs) ≡ x.1 ∷ of_seat seat xs
of_seat-its seat x xs e = of_seat-cons seat x xs ∙ cond-true (eqb x.0 seat) (x.1 ∷ of_seat seat xs) (of_seat seat xs) e

pub of_seat-other : {X : Type 0} (seat : ℕ) (x : ℕ × X) (xs : List (ℕ × X)) → eqb x.0 seat ≡ false → of_seat seat (x ∷ xs) ≡ of_seat seat xs
of_seat-other seat x xs e = of_seat-cons seat x xs ∙ cond-false (eqb x.0 seat) (x.1 ∷ of_seat seat xs) (of_seat seat xs) e

-- the place of a seat's first value: without it that seat has the rest, and every other has what it had
record IsFirst {X : Type 0} (seat : ℕ) (x : X) (rest : List X) (ys : List (ℕ × X)) : Type 0 where
  front : List (ℕ × X)
  back : List (ℕ × X)
  is : ys ≡ front ++ (seat, x) ∷ back
  its : of_seat seat (front ++ back) ≡ rest
  others : (other : ℕ) → eqb seat other ≡ false → of_seat other (front ++ back) ≡ of_seat other ys

first_here : {X : Type 0} (seat : ℕ) (x : X) (rest : List X) (y : ℕ × X) (ys : List (ℕ × X)) → eqb y.0 seat ≡ true → of_seat seat (y ∷ ys) ≡ x ∷ rest → IsFirst seat x rest (y ∷ ys)
first_here {X} seat x rest y ys at e =
    let its : y.1 ∷ of_seat seat ys ≡ x ∷ rest = sym (of_seat-its seat y ys at) ∙ e in
    let place : y.0 ≡ seat = eqb-true y.0 seat at in
    record { front = []; back = ys; is = grind (arith, common_steps); its = cc; others = λ other ne. sym (of_seat-other other y ys (rw place ne)) }

first_later : {X : Type 0} (seat : ℕ) (x : X) (rest : List X) (y : ℕ × X) (ys : List (ℕ × X)) → eqb y.0 seat ≡ false → IsFirst seat x rest ys → IsFirst seat x rest (y ∷ ys)
first_later {X} seat x rest y ys at f = record {
  front = y ∷ f.front;
  back = f.back;
  is = ap (λ zs. y ∷ zs) f.is;
  its = of_seat-other seat y (f.front ++ f.back) at ∙ f.its;
  others = λ other ne. grind (arith, common_steps, of_seat-cons other y, f.others other ne);
}

first_of_seat : {X : Type 0} (seat : ℕ) (x : X) (rest : List X) (ys : List (ℕ × X)) → of_seat seat ys ≡ x ∷ rest → IsFirst seat x rest ys
first_of_seat seat x rest [] e = grind (arith, common_steps)
first_of_seat {X} seat x rest (y ∷ ys) e = grind (arith, common_steps, cases_Bool, first_here, first_later, of_seat-other, first_of_seat seat x rest ys)

-- if no seat has a value, the list is empty
empty-by_seat : {X : Type 0} (ys : List (ℕ × X)) → SameBySeat [] ys → ys ≡ []
empty-by_seat [] same = refl
empty-by_seat {X} (y ∷ ys) same = let e : [] ≡ y.1 ∷ of_seat y.0 ys = same y.0 ∙ of_seat-its y.0 y ys (eq-eqb y.0 y.0 refl) in absurd (cc)

pub rearranged_by_seat : {X : Type 0} (xs ys : List (ℕ × X)) → SameBySeat xs ys → Rearranged xs ys
rearranged_by_seat [] ys same = empty-by_seat ys same
rearranged_by_seat {X} (x ∷ xs) ys same =
    let f : IsFirst x.0 x.1 (of_seat x.0 xs) ys = first_of_seat x.0 x.1 (of_seat x.0 xs) ys (sym (same x.0) ∙ of_seat-its x.0 x xs (eq-eqb x.0 x.0 refl)) in
    grind (arith, common_steps, f.front, eqb-true, of_seat-other, cases_Bool, rearranged_by_seat xs)

-- whatever is asked of the values, as many answer
pub as_often_by_seat : {X : Type 0} (xs ys : List (ℕ × X)) → SameBySeat xs ys → (asked : X → Bool) → count_by asked (map (λ (x : ℕ × X). x.1) xs) ≡ count_by asked (map (λ (x : ℕ × X). x.1) ys)
as_often_by_seat {X} xs ys same asked = grind (arith, common_steps, count_by-rearranged, Rearranged-map, rearranged_by_seat)

-- what a seat has of a list of things that know their seat
pub of_seat-map : {E X : Type 0} (seat_of : E → ℕ) (value_of : E → X) (seat : ℕ) (es : List E)
    → of_seat seat (map (λ e. (seat_of e, value_of e)) es) ≡ map value_of (filter (λ e. eqb (seat_of e) seat) es)
of_seat-map seat_of value_of seat [] = grind (arith, common_steps)
of_seat-map {E} {X} seat_of value_of seat (e ∷ es) = grind (arith, common_steps, of_seat-map seat_of value_of seat es)
