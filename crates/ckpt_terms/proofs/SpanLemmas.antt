-- Ranges of names, and what is left of them.
use Rattle.ckpt_terms.proofs.Imports.{◌≡◌, ℕ, zero, suc, ◌+◌, ◌-◌, ◌<◌, ◌≤◌, true, false, not, ◌||◌, ltb, leb, eqb, List, [], ◌∷◌, ◌++◌, refl, sym, ap, subst, ◌∙◌, inl, inr, ⊎_elim, arith}
use Rattle.ckpt_terms.proofs.Imports.{list_any, range_with_len, cases_Bool, both_ways, and_parts, and_from, ltb-true, lt-ltb, leb-true, le-leb, eqb-true, eq-eqb, ne_eqb, append-nil}
use Rattle.ckpt_terms.proofs.Imports.{append_assoc, take-append-drop, list_any-append, drop-cons, take, drop, get_or, length, IsIn, IsAscendingSet, IsIn-append_right, ComesBefore-at}
use Rattle.ckpt_terms.proofs.Imports.{filter-same, filter-all, list_any-none, list_any-from_IsIn, IsInOrder-append, Span, without_all, row, in_span, names_of}
use Rattle.ckpt_terms.proofs.Stepping.{in_row, row_ascends}

abbrev pub span : ℕ → ℕ → Span
span from to = record { from = from; to = to }

pub names_push : (xs : List Span) (s : Span) → names_of (xs ++ s ∷ []) ≡ names_of xs ++ row s
names_push [] s = append-nil (row s)
names_push (x ∷ xs) s = ap (λ ys. row x ++ ys) (names_push xs s) ∙ sym (append_assoc (row x) (names_of xs) (row s))

-- the names of a range
pub row-bounds : (from to f : ℕ) → IsIn f (row (span from to)) → (from ≤ f) × (f < to)
row-bounds from to f h =
    let i : (from ≤ f) × (f < from + (to - from)) = in_row from (to - from) f h in
    let l : from ≤ f = i.0 in
    let r : f < from + (to - from) = i.1 in
    (l, omega arith)

row_there : (a n f : ℕ) → a ≤ f → f < a + n → IsIn f (range_with_len a n)
row_there a zero f l r = absurd (omega arith)
row_there a (suc n) f l r =
    ⊎_elim
    (λ (e : eqb f a ≡ true). inl (eqb-true f a e))
    (λ (e : eqb f a ≡ false). let ne : f ≡ a → ⊥ = λ k. both_ways (eqb f a) e (eq-eqb f a k) in inr (row_there (a + 1) n f (omega arith) (omega arith)))
    (cases_Bool (eqb f a))

pub row-from_bounds : (from to f : ℕ) → from ≤ f → f < to → IsIn f (row (span from to))
row-from_bounds from to f l r = row_there from (to - from) f l (omega arith)

pub row_empty : (from to : ℕ) → to ≤ from → row (span from to) ≡ []
row_empty from to h = let e : to - from ≡ 0 = omega arith in ap (range_with_len from) e

pub range_split : (a n k : ℕ) → range_with_len a (n + k) ≡ range_with_len a n ++ range_with_len (a + n) k
range_split a zero k = let e : a + 0 ≡ a = omega arith in let z : 0 + k ≡ k = omega arith in ap (range_with_len a) z ∙ ap (λ b. range_with_len b k) (sym e)
range_split a (suc n) k =
    let e : (a + 1) + n ≡ a + suc n = omega arith in
    let s : suc n + k ≡ suc (n + k) = omega arith in
    ap (range_with_len a) s ∙ ap (λ xs. a ∷ xs) (range_split (a + 1) n k ∙ ap (λ b. range_with_len (a + 1) n ++ range_with_len b k) e)

-- a range at one of its names
pub row_split : (from to name : ℕ) → from ≤ name → name < to → row (span from to) ≡ row (span from name) ++ name ∷ row (span (name + 1) to)
row_split from to name l r =
    let n : ℕ = name - from in
    let k : ℕ = to - (name + 1) in
    let whole : to - from ≡ n + suc k = omega arith in
    let at : from + n ≡ name = omega arith in
    ap (range_with_len from) whole ∙ range_split from n (suc k) ∙ ap (λ b. range_with_len from n ++ range_with_len b (suc k)) at

-- a name in ranges is one in a range
in_one : (f : ℕ) (s : Span) → list_any (λ g. eqb f g) (row s) ≡ in_span f s
in_one f s =
    ⊎_elim
    (λ (e : in_span f s ≡ true). let p = and_parts (leb s.from f) (ltb f s.to) e in
    list_any-from_IsIn (λ g. eqb f g) f (row s) (row-from_bounds s.from s.to f (leb-true s.from f p.0) (ltb-true f s.to p.1)) (eq-eqb f f refl) ∙ sym e)
    (λ (e : in_span f s ≡ false).
    list_any-none (λ g. eqb f g) (row s)
    (λ g h. let b : (s.from ≤ g) × (g < s.to) = row-bounds s.from s.to g h in
    ne_eqb f g (λ same. both_ways (in_span f s) e (subst (λ x. in_span x s ≡ true) (sym same) (and_from (leb s.from g) (ltb g s.to) (le-leb s.from g b.0) (lt-ltb g s.to b.1))))) ∙ sym e)
    (cases_Bool (in_span f s))

pub in_spans : (f : ℕ) (spans : List Span) → list_any (λ g. eqb f g) (names_of spans) ≡ list_any (in_span f) spans
in_spans f [] = refl
in_spans f (s ∷ spans) = list_any-append (λ g. eqb f g) (row s) (names_of spans) ∙ ap (λ b. b || list_any (λ g. eqb f g) (names_of spans)) (in_one f s) ∙ ap (λ b. in_span f s || b) (in_spans f spans)

-- leaving names out
pub without-append : (gone xs ys : List ℕ) → without_all gone (xs ++ ys) ≡ without_all gone xs ++ without_all gone ys
without-append gone [] ys = refl
without-append gone (x ∷ xs) ys =
    ⊎_elim
    (λ (e : list_any (λ g. eqb x g) gone ≡ true). rw e (without-append gone xs ys))
    (λ (e : list_any (λ g. eqb x g) gone ≡ false). rw e (ap (λ zs. x ∷ zs) (without-append gone xs ys)))
    (cases_Bool (list_any (λ g. eqb x g) gone))

-- one that is below all of them
pub without_below : (g : ℕ) (gone ys : List ℕ) → ((y : ℕ) → IsIn y ys → g < y) → without_all (g ∷ gone) ys ≡ without_all gone ys
without_below g gone ys above =
    filter-same (λ f. not (list_any (λ x. eqb f x) (g ∷ gone))) (λ f. not (list_any (λ x. eqb f x) gone)) ys
    (λ y h. let b : g < y = above y h in ap (λ t. not (t || list_any (λ x. eqb y x) gone)) (ne_eqb y g (λ e. absurd (omega arith))))

-- those that are all above
pub without_above : (gone ys : List ℕ) → ((y g : ℕ) → IsIn y ys → IsIn g gone → y < g) → without_all gone ys ≡ ys
without_above gone ys below =
    filter-all (λ f. not (list_any (λ x. eqb f x) gone)) ys (λ y h. ap not (list_any-none (λ x. eqb y x) gone (λ g k. let b : y < g = below y g h k in ne_eqb y g (λ e. absurd (omega arith)))))

pub without_itself : (g : ℕ) (gone ys : List ℕ) → without_all (g ∷ gone) (g ∷ ys) ≡ without_all (g ∷ gone) ys
without_itself g gone ys = let e : eqb g g ≡ true = eq-eqb g g refl in rw e refl

-- in ascending lists
pub append_rises : (xs ys : List ℕ) (x y : ℕ) → IsAscendingSet (xs ++ ys) → IsIn x xs → IsIn y ys → x < y
append_rises [] ys x y a h k = absurd h
append_rises (z ∷ xs) ys x y a h k =
    ⊎_elim
    (λ (e : x ≡ z). let l : z < y = ltb-true z y (ComesBefore-at ltb z y (xs ++ ys) a.0 (IsIn-append_right y xs ys k)) in omega arith)
    (λ (i : IsIn x xs). append_rises xs ys x y a.1 i k)
    h

pub rises_behind : (xs ys : List ℕ) → IsAscendingSet (xs ++ ys) → IsAscendingSet ys
rises_behind [] ys a = a
rises_behind (x ∷ xs) ys a = rises_behind xs ys a.1

-- an added range
-- numbers that rise from a base on and stay below an end are no more than lie between
pub few_between : (xs : List ℕ) (base end : ℕ) → base ≤ end → IsAscendingSet xs → ((x : ℕ) → IsIn x xs → (base ≤ x) × (x < end)) → base + length xs ≤ end
few_between [] base end order rises h = omega (arith, order)
few_between (x ∷ xs) base end order rises h =
    let here : (base ≤ x) × (x < end) = h x (inl refl) in
    let rest : x + 1 + length xs ≤ end = few_between xs (x + 1) end (omega (arith, here.1)) (rises_behind (x ∷ []) xs rises)
    (λ y k. (omega (arith, append_rises (x ∷ []) xs x y rises (inl refl) k), (h y (inr k)).1)) in
    omega (arith, here.0, rest)

pub added_rises : (spans : List Span) (first count : ℕ) → IsAscendingSet (names_of spans) → ((f : ℕ) → IsIn f (names_of spans) → f < first)
    → IsAscendingSet (names_of (spans ++ span first (first + count) ∷ []))
added_rises spans first count a above =
    let its : List ℕ = row (span first (first + count)) in
    subst IsAscendingSet (sym (names_push spans (span first (first + count))))
    (IsInOrder-append ltb (names_of spans) its a (row_ascends first ((first + count) - first))
    (λ x y h k. let b : x < first = above x h in let d : first ≤ y = (row-bounds first (first + count) y k).0 in lt-ltb x y (omega arith)))

pub added_is : (spans : List Span) (first count : ℕ) → names_of (spans ++ span first (first + count) ∷ []) ≡ names_of spans ++ range_with_len first count
added_is spans first count = let e : (first + count) - first ≡ count = omega arith in names_push spans (span first (first + count)) ∙ ap (λ n. names_of spans ++ range_with_len first n) e

-- the rest of a list, at a place in it
pub next_cons : {X : Type 0} (xs : List X) (i : ℕ) (d : X) → i < length xs → drop i xs ≡ get_or xs i d ∷ drop (i + 1) xs
next_cons xs i d h = let s : suc i ≡ i + 1 = omega arith in drop-cons xs i d h ∙ ap (λ k. get_or xs i d ∷ drop k xs) s

-- the ranges from a place on
pub ranges_at : (spans : List Span) (i : ℕ) (d : Span) → i < length spans → names_of (drop i spans) ≡ row (get_or spans i d) ++ names_of (drop (i + 1) spans)
ranges_at spans i d h = ap names_of (next_cons spans i d h)

pub names_append : (xs ys : List Span) → names_of (xs ++ ys) ≡ names_of xs ++ names_of ys
names_append [] ys = refl
names_append (x ∷ xs) ys = ap (λ zs. row x ++ zs) (names_append xs ys) ∙ sym (append_assoc (row x) (names_of xs) (names_of ys))

-- the names before a range, its own, and those behind it
pub names_at : (xs : List Span) (i : ℕ) (d : Span) → i < length xs → names_of xs ≡ names_of (take i xs) ++ (row (get_or xs i d) ++ names_of (drop (i + 1) xs))
names_at xs i d h = ap names_of (sym (take-append-drop i xs)) ∙ names_append (take i xs) (drop i xs) ∙ ap (λ ys. names_of (take i xs) ++ ys) (ranges_at xs i d h)
