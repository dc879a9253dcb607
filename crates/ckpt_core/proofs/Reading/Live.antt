-- The live records by place: each is the first from the number after the one before.
use Rattle.ckpt_core.proofs.Names.{◌≡◌, ℕ, zero, suc, ◌+◌, ◌<◌, ◌≤◌, ◌^◌, Bool, true, false, cond, ltb, leb, List, [], ◌∷◌, ◌++◌, map, length, refl, sym, ap, subst, ◌∙◌, ⊎_elim, arith, Option, Some}
use Rattle.ckpt_core.proofs.Names.{None, count_by, find, slice_get, option_map, cases_Bool, both_ways, cond_both, ltb-true, ltb-false, leb-true, leb-false, lt-ltb, le-ltb, slice_get_past, IsIn}
use Rattle.ckpt_core.proofs.Names.{IsInOrder, in_order, Record, Use, count_by_yes, count_by_no, count_by-none, ComesBefore-at, IsIn-append_left, IsIn-append_right, IsIn-append_cases, IsIn-map}
use Rattle.ckpt_core.proofs.Names.{IsIn-from_map, IsIn-in_order, IsIn-from_in_order, list_any-none, find-none, Live, Parts, with_pins, grouped, AreSound, records_in, state_of, live_of, sooner}
use Rattle.ckpt_core.proofs.Names.{IsSound, id_before, IsIn-from_find, fails-from_find, same_record, common_steps}

-- whether the number is at least this one
abbrev pub is_from : ℕ → Record → Bool
is_from n r = leb n r.id

-- the first of these records from a number on, whatever their order is
abbrev IsFirst : ℕ → List Record → Option Live → Type 0
IsFirst n xs None = (r : Record) → IsIn r xs → is_from n r ≡ false
IsFirst n xs (Some live) = ((r : Record) × IsIn r xs × (is_from n r ≡ true) × (live ≡ live_of r)) × ((s : Record) → IsIn s xs → is_from n s ≡ true → live.id ≤ s.id)

-- of records in order it is what is found
least_found : (n : ℕ) (r : Record) (xs : List Record) → IsInOrder id_before xs → find (is_from n) xs ≡ Some r → (s : Record) → IsIn s xs → is_from n s ≡ true → r.id ≤ s.id
least_found n r [] order e s h t = absurd h
least_found n r (x ∷ xs) order e s h t =
    let Goal : Type 0 = r.id ≤ s.id in
    let P : Bool → Type 0 = λ b. cond b (Some x) (find (is_from n) xs) ≡ Some r in
    let here : is_from n x ≡ true → Goal = λ (k : is_from n x ≡ true).
    let same : ◌≡◌ {A = Option Record} (Some x) (Some r) = subst P k e in
    let is : x ≡ r = cc in let number : x.id ≡ r.id = ap (λ q. q.id) is in
    ⊎_elim
    (λ (j : s ≡ x). let its : s.id ≡ x.id = ap (λ q. q.id) j in let g : Goal = omega arith in g)
    (λ (j : IsIn s xs). let below : x.id < s.id = ltb-true x.id s.id (ComesBefore-at id_before x s xs order.0 j) in let g : Goal = omega arith in g)
    h in
    let later : is_from n x ≡ false → Goal = λ (k : is_from n x ≡ false). ⊎_elim (λ (j : s ≡ x). absurd (both_ways (is_from n x) k (ap (is_from n) (sym j) ∙ t)))
    (λ (j : IsIn s xs). least_found n r xs order.1 (subst P k e) s j t) h in
    ⊎_elim here later (cases_Bool (is_from n x))

first_found_in : (n : ℕ) (xs : List Record) (o : Option Record) → IsInOrder id_before xs → find (is_from n) xs ≡ o → IsFirst n xs (option_map live_of o)
first_found_in n xs None order e = λ r h. fails-from_find (is_from n) r xs e h
first_found_in n xs (Some r) order e = let k = IsIn-from_find (is_from n) r xs e in ((r, k.0, k.1, refl), least_found n r xs order e)

-- and it is no other
found_is_first : (n : ℕ) (xs : List Record) (o : Option Live) → IsInOrder id_before xs → IsFirst n xs o → o ≡ option_map live_of (find (is_from n) xs)
found_is_first n xs None order first = sym (ap (option_map live_of) (find-none (is_from n) xs (list_any-none (is_from n) xs first)))
found_is_first n xs (Some live) order first =
    let Goal : Type 0 = ◌≡◌ {A = Option Live} (Some live) (option_map live_of (find (is_from n) xs)) in
    let none : find (is_from n) xs ≡ None → Goal = λ (e : find (is_from n) xs ≡ None). absurd (both_ways (is_from n first.0.0) (fails-from_find (is_from n) first.0.0 xs e first.0.1) first.0.2) in
    let some : (q : Record) → find (is_from n) xs ≡ Some q → Goal = λ q e.
    let k = IsIn-from_find (is_from n) q xs e in
    let low : q.id ≤ first.0.0.id = least_found n q xs order e first.0.0 first.0.1 first.0.2 in
    ap (λ l. Some l) (first.0.3 ∙ ap live_of (same_record first.0.0 q xs order first.0.1 k.0 (omega (arith, ap (λ l. l.id) first.0.3, first.1 q k.0 k.1)))) ∙ sym (ap (option_map live_of) e) in
    elim (find (is_from n) xs) as (λ o. (find (is_from n) xs ≡ o → Goal)) [ None ↦ none | Some q ↦ some q ] refl

-- of two lists it is the sooner one
first_append : (n : ℕ) (xs ys : List Record) (a b : Option Live) → IsFirst n xs a → IsFirst n ys b → IsFirst n (xs ++ ys) (sooner a b)
first_append n xs ys None None f g = λ r h. ⊎_elim (λ (k : IsIn r xs). f r k) (λ (k : IsIn r ys). g r k) (IsIn-append_cases r xs ys h)
first_append n xs ys (Some a) None f g = (
  (f.0.0, IsIn-append_left f.0.0 xs ys f.0.1, f.0.2, f.0.3),
  λ s h t. ⊎_elim (λ (k : IsIn s xs). f.1 s k t) (λ (k : IsIn s ys). absurd (both_ways (is_from n s) (g s k) t)) (IsIn-append_cases s xs ys h),
)
first_append n xs ys None (Some b) f g = (
  (g.0.0, IsIn-append_right g.0.0 xs ys g.0.1, g.0.2, g.0.3),
  λ s h t. ⊎_elim (λ (k : IsIn s xs). absurd (both_ways (is_from n s) (f s k) t)) (λ (k : IsIn s ys). g.1 s k t) (IsIn-append_cases s xs ys h),
)
first_append n xs ys (Some a) (Some b) f g =
    cond_both (ltb a.id b.id) (Some a) (Some b) (IsFirst n (xs ++ ys))
    (λ e. let below : a.id < b.id = ltb-true a.id b.id e in (
      (f.0.0, IsIn-append_left f.0.0 xs ys f.0.1, f.0.2, f.0.3),
      λ s h t. ⊎_elim (λ (k : IsIn s xs). f.1 s k t) (λ (k : IsIn s ys). let low : b.id ≤ s.id = g.1 s k t in let l : a.id ≤ s.id = omega arith in l) (IsIn-append_cases s xs ys h),
    ))
    (λ e. let below : b.id ≤ a.id = ltb-false a.id b.id e in (
      (g.0.0, IsIn-append_right g.0.0 xs ys g.0.1, g.0.2, g.0.3),
      λ s h t. ⊎_elim (λ (k : IsIn s xs). let low : a.id ≤ s.id = f.1 s k t in let l : b.id ≤ s.id = omega arith in l) (λ (k : IsIn s ys). g.1 s k t) (IsIn-append_cases s xs ys h),
    ))

first_pinned : (n : ℕ) (us : List Use) (xs : List Record) (o : Option Live) → IsFirst n xs o → IsFirst n (map (with_pins us) xs) o
first_pinned n us xs None f = λ r h. let q = IsIn-from_map (with_pins us) r xs h in ap (is_from n) q.2 ∙ f q.0 q.1
first_pinned n us xs (Some live) f = (
  (with_pins us f.0.0, IsIn-map (with_pins us) f.0.0 xs f.0.1, f.0.2, f.0.3),
  λ s h t. let q = IsIn-from_map (with_pins us) s xs h in let low : live.id ≤ q.0.id = f.1 q.0 q.1 (ap (is_from n) (sym q.2) ∙ t) in let its : s.id ≡ q.0.id = ap (λ w. w.id) q.2 in let l : live.id ≤
      s.id = omega arith in l,
)

first_in_order : (n : ℕ) (xs : List Record) (o : Option Live) → IsFirst n xs o → IsFirst n (in_order id_before xs) o
first_in_order n xs None f = λ r h. f r (IsIn-from_in_order id_before r xs h)
first_in_order n xs (Some live) f = ((f.0.0, IsIn-in_order id_before f.0.0 xs f.0.1, f.0.2, f.0.3), λ s h t. f.1 s (IsIn-from_in_order id_before s xs h) t)

-- the first live record from a number on is the soonest of the groups' first
pub first_live : (p : Parts) (n : ℕ) (a b c : Option Live) → IsInOrder id_before (records_in p) → IsInOrder id_before p.pending → IsInOrder id_before p.store.checkpoints →
    IsInOrder id_before p.store.savepoints → a ≡ option_map live_of (find (is_from n) p.pending) → b ≡ option_map live_of (find (is_from n) p.store.checkpoints) →
    c ≡ option_map live_of (find (is_from n) p.store.savepoints) → sooner a (sooner b c) ≡ option_map live_of (find (is_from n) (records_in p))
first_live p n a b c order pending checkpoints savepoints is_a is_b is_c =
    let us : List Use = p.registry in
    let cs : List Record = p.store.checkpoints in
    let ss : List Record = p.store.savepoints in
    let F : List Record → Option Live → Type 0 = IsFirst n in
    let first_a : F p.pending a = subst (F p.pending) (sym is_a) (first_found_in n p.pending (find (is_from n) p.pending) pending refl) in
    let first_c : F ss c = subst (F ss) (sym is_c) (first_found_in n ss (find (is_from n) ss) savepoints refl) in
    let done : F (cs ++ ss) (sooner b c) = first_append n cs ss b c (subst (F cs) (sym is_b) (first_found_in n cs (find (is_from n) cs) checkpoints refl)) first_c in
    let all : F (grouped us p.pending cs ss) (sooner a (sooner b c)) = first_append n (map (with_pins us) p.pending) (cs ++ ss) a (sooner b c) (first_pinned n us p.pending a first_a) done in
    found_is_first n (records_in p) (sooner a (sooner b c)) order (first_in_order n (grouped us p.pending cs ss) (sooner a (sooner b c)) all)

-- places
abbrev pub is_below : ℕ → Record → Bool
is_below n r = ltb r.id n

all_from : (n : ℕ) (x : Record) (xs : List Record) → IsInOrder id_before (x ∷ xs) → n ≤ x.id → (y : Record) → IsIn y xs → n ≤ y.id
all_from n x xs order low y h = let above : x.id < y.id = ltb-true x.id y.id (ComesBefore-at id_before x y xs order.0 h) in omega arith

-- the first record from a number on comes right after those below it
pub found_by_count : (n : ℕ) (xs : List Record) → IsInOrder id_before xs → find (is_from n) xs ≡ slice_get xs (count_by (is_below n) xs)
found_by_count n [] order = refl
found_by_count n (x ∷ xs) order = grind (arith, common_steps, all_from, cases_Bool, count_by-none, count_by_yes, le-ltb, leb-false, leb-true, lt-ltb, found_by_count n xs order.1)

-- one more is below the number after it
pub one_more : (n : ℕ) (r : Record) (xs : List Record) → IsInOrder id_before xs → find (is_from n) xs ≡ Some r → count_by (is_below (r.id + 1)) xs ≡ count_by (is_below n) xs + 1
one_more n r [] order e = absurd (cc)
one_more n r (x ∷ xs) order e =
    let Goal : Type 0 = count_by (is_below (r.id + 1)) (x ∷ xs) ≡ count_by (is_below n) (x ∷ xs) + 1 in
    let P : Bool → Type 0 = λ b. cond b (Some x) (find (is_from n) xs) ≡ Some r in
    let here : is_from n x ≡ true → Goal = λ (k : is_from n x ≡ true).
    let same : ◌≡◌ {A = Option Record} (Some x) (Some r) = subst P k e in
    let is : x ≡ r = cc in let number : x.id ≡ r.id = ap (λ q. q.id) is in
    let low : n ≤ x.id = leb-true n x.id k in
    let mine : is_below (r.id + 1) x ≡ true = lt-ltb x.id (r.id + 1) (omega arith) in
    let not_mine : is_below n x ≡ false = le-ltb x.id n low in
    let others : count_by (is_below (r.id + 1)) xs ≡ 0 = count_by-none (is_below (r.id + 1)) xs
    (λ y h. le-ltb y.id (r.id + 1) (let above : x.id < y.id = ltb-true x.id y.id (ComesBefore-at id_before x y xs order.0 h) in let l : r.id + 1 ≤ y.id = omega arith in l)) in
    let none : count_by (is_below n) xs ≡ 0 = count_by-none (is_below n) xs (λ y h. le-ltb y.id n (all_from n x xs order low y h)) in
    omega (arith, count_by_yes (is_below (r.id + 1)) x xs mine, count_by_no (is_below n) x xs not_mine) in
    let later : is_from n x ≡ false → Goal = λ (k : is_from n x ≡ false).
    let rest : find (is_from n) xs ≡ Some r = subst P k e in
    let high : n ≤ r.id = leb-true n r.id (IsIn-from_find (is_from n) r xs rest).1 in
    let low : x.id < n = leb-false n x.id k in
    let mine : is_below (r.id + 1) x ≡ true = lt-ltb x.id (r.id + 1) (omega arith) in
    let too : is_below n x ≡ true = lt-ltb x.id n low in
    omega (arith, one_more n r xs order.1 rest, count_by_yes (is_below (r.id + 1)) x xs mine, count_by_yes (is_below n) x xs too) in
    ⊎_elim here later (cases_Bool (is_from n x))

pub past : (ys : List Record) (k : ℕ) → slice_get ys k ≡ None → (j : ℕ) → k ≤ j → length ys ≤ j
past [] k e j h = omega arith
past (y ∷ ys) zero e j h = absurd (cc)
past (y ∷ ys) (suc k) e zero h = absurd (omega arith)
past (y ∷ ys) (suc k) e (suc j) h = let l : length ys ≤ j = past ys k e j (omega arith) in omega arith

-- the walk over the places
pub walk_ended : (n place : ℕ) (xs : List Record) (o : Option Live) → IsInOrder id_before xs → count_by (is_below n) xs ≡ place → o ≡ option_map live_of (find (is_from n) xs) →
    o ≡ option_map live_of (slice_get xs place)
walk_ended n place xs o order at is = is ∙ ap (option_map live_of) (found_by_count n xs order ∙ ap (slice_get xs) at)

pub none_of : (o : Option Record) → None ≡ option_map live_of o → o ≡ None
none_of None e = refl
none_of (Some r) e = absurd (cc)

pub walk_stopped : (n turn place : ℕ) (xs : List Record) → IsInOrder id_before xs → count_by (is_below n) xs ≡ turn → turn < place → None ≡ option_map live_of (find (is_from n) xs) →
    None ≡ option_map live_of (slice_get xs place)
walk_stopped n turn place xs order at further is =
    let none : slice_get xs (count_by (is_below n) xs) ≡ None = sym (found_by_count n xs order) ∙ none_of (find (is_from n) xs) is in
    sym (ap (option_map live_of) (slice_get_past xs place (past xs (count_by (is_below n) xs) none place (omega arith))))

pub some_of : (live : Live) (o : Option Record) → Some live ≡ option_map live_of o → (r : Record) × (o ≡ Some r) × (live ≡ live_of r)
some_of live None e = absurd (cc)
some_of live (Some r) e = (r, refl, let same : live ≡ live_of r = cc in same)

pub walk_goes_on : (n turn : ℕ) (live : Live) (xs : List Record) → IsInOrder id_before xs → count_by (is_below n) xs ≡ turn → Some live ≡ option_map live_of (find (is_from n) xs) →
    count_by (is_below (live.id + 1)) xs ≡ turn + 1
walk_goes_on n turn live xs order at is = grind (arith, common_steps, one_more, some_of)

-- a live record's number is below all numbers' end
pub live_bound : (p : Parts) (n : ℕ) (live : Live) → IsSound (state_of p) → Some live ≡ option_map live_of (find (is_from n) (records_in p)) → live.id < 2 ^ 62
unfolding state_of
live_bound p n live sound is =
    let q = some_of live (find (is_from n) (records_in p)) is in
    omega (arith, sound.records.below_next q.0 (IsIn-from_find (is_from n) q.0 (records_in p) q.1).0, ap (λ l. l.id) q.2)

-- at first none is below
pub none_below_zero : (xs : List Record) → count_by (is_below 0) xs ≡ 0
none_below_zero xs = count_by-none (is_below 0) xs (λ y h. le-ltb y.id 0 (omega arith))

pub live_in_order : (p : Parts) → AreSound p → IsInOrder id_before (records_in p)
unfolding state_of
live_in_order p sound = sound.sound.records.in_order
