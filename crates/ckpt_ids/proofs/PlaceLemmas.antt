-- What a binary search finds in a list that is in order by a key, and what a change at that place leaves.
use Rattle.ckpt_ids.proofs.Names.{common_steps, ◌≡◌, ℕ, zero, suc, ◌-◌, ◌<◌, ◌≤◌, Bool, true, false, not, List, [], ◌∷◌, length, map, get_or, refl, sym, ap, ◌∙◌, arith, Result, Ok, Err, IfOk, IfErr}
use Rattle.ckpt_ids.proofs.Names.{Ordering, filter, find, slice_get, Some, None, list_any, insert, remove, IsBinarySearchResult, IsNonDecreasingBy, IsPartitionPoint, IsPartitionedBy, IsSearchInRange}
use Rattle.ckpt_ids.proofs.Names.{ordering_index, both_ways, cases_lt, get_or_read_under, ComesBefore, IsIn, IsInOrder, IsStrictOrder, put, BelongsAt, IsSearchOrder, LiesAt}
use Rattle.ckpt_ids.proofs.OrderedLemmas.{ComesBefore-at, ComesBefore-from, IsIn-get_or, IsIn-map, IsIn-place, IsInOrder-at, filter-all, filter-none, list_any-from_IsIn, list_any-none}

pub find-none : {X : Type 0} (p : X → Bool) (xs : List X) → list_any p xs ≡ false → find p xs ≡ None
find-none p [] h = refl
find-none p (x ∷ xs) h = grind (arith, common_steps, find-none p xs)

pub some_at : {X : Type 0} (xs : List X) (place : ℕ) → place < length xs → (x : X) × (slice_get xs place ≡ Some x)
some_at [] place h = absurd (omega arith)
some_at (x ∷ xs) zero h = (x, refl)
some_at (x ∷ xs) (suc place) h = some_at xs place (omega arith)

pub get_or_any : {X : Type 0} (xs : List X) (place : ℕ) (d e : X) → place < length xs → get_or xs place d ≡ get_or xs place e
get_or_any [] place d e h = absurd (omega arith)
get_or_any (x ∷ xs) zero d e h = refl
get_or_any (x ∷ xs) (suc place) d e h = get_or_any xs place d e (omega arith)

-- if the keys are in order, the elements are in order by their keys
pub IsInOrder-of_keys : {X K : Type 0} (before : K → K → Bool) (key : X → K) (xs : List X) → IsInOrder before (map key xs) → IsInOrder (λ x y. before (key x) (key y)) xs
IsInOrder-of_keys before key [] a = tt
IsInOrder-of_keys before key (x ∷ xs) a =
    grind (arith, common_steps, ComesBefore-from (λ x y. before (key x) (key y)) x xs, ComesBefore-at before (key x), IsIn-map key, IsInOrder-of_keys before key xs)

-- if each comes before the key, the rest begins at the end
pub end_point : {X : Type 0} (P Q : X → Type 0) (xs : List X) (n : ℕ) → n ≡ length xs → ((i : ℕ) (d : X) → i < n → P (get_or xs i d)) → IsPartitionPoint P Q xs n
end_point P Q xs n all h = (λ i d l m. h i d m, λ i d l m. absurd (omega arith))

-- an element belongs at the place of the first one that does not come before it
pub insert-put : {X : Type 0} (before : X → X → Bool) (x : X) (xs : List X) (place : ℕ) → place ≤ length xs → IsPartitionPoint (λ y. before y x ≡ true) (λ y. before y x ≡ false) xs place
    → insert xs place x ≡ put before x xs
insert-put before x [] zero within parted = refl
insert-put before x [] (suc place) within parted = absurd (omega arith)
insert-put before x (y ∷ xs) zero within parted = grind (arith, common_steps, parted.1 0 y)
insert-put before x (y ∷ xs) (suc place) within parted =
    let rest = insert-put before x xs place (omega arith) (λ i d l m. parted.0 (suc i) d (omega arith) (omega arith), λ i d l m. parted.1 (suc i) d (omega arith) (omega arith)) in
    grind (arith, common_steps, parted.0 0 y)

module _ {X K : Type 0} (key : X → K) {before : K → K → Bool} (o : IsStrictOrder before) where
  abbrev Rises : List X → Type 0
  Rises xs = IsInOrder (λ x y. before (key x) (key y)) xs

  pub differ : (a b : K) → before a b ≡ true → a ≡ b → ⊥
  differ a b h e = both_ways (before a a) (o.irreflexive a) (ap (before a) e ∙ h)

  pub behind : (a b : K) → before a b ≡ true → before b a ≡ false
  behind a b h = grind (arith, common_steps, differ a a, o.transitive a b a h)

  -- what a search returns

  searchable : {cmp : K → K → Ordering} (s : IsSearchOrder cmp before) (k : K) (xs : List X) → Rises xs → IsNonDecreasingBy (λ x. ordering_index (cmp (key x) k)) xs
  searchable {cmp} s k xs a = λ i j d h l. grind (arith, common_steps, s.rises (key (get_or xs i d)) (key (get_or xs j d)) k, IsInOrder-at (λ x y. before (key x) (key y)) xs i j d a, cases_lt i j)

  pub search_found : {cmp : K → K → Ordering} (s : IsSearchOrder cmp before) (k : K) (xs : List X) (r : Result ℕ ℕ) → IsSearchInRange r (length xs) → IsBinarySearchResult (λ x. cmp (key x) k) xs r
      → IfOk r (LiesAt key k xs)
  search_found s k xs (Ok place) within at = (within, λ d. s.equal (key (get_or xs place d)) k (at d))
  search_found s k xs (Err place) within at = tt

  pub search_absent : {cmp : K → K → Ordering} (s : IsSearchOrder cmp before) (k : K) (xs : List X) (r : Result ℕ ℕ) → Rises xs → IsSearchInRange r (length xs)
      → IsBinarySearchResult (λ x. cmp (key x) k) xs r → IfErr r (BelongsAt before key k xs)
  search_absent s k xs (Ok place) a within at = tt
  search_absent s k xs (Err place) a within at =
      let parted = at (searchable s k xs a) in
      (within, (λ i d h l. s.less (key (get_or xs i d)) k (parted.0 i d h l), λ i d h l. s.greater (key (get_or xs i d)) k (parted.1 i d h l)))

  -- those before the key come before the others
  pub partitioned : (k : K) (xs : List X) → Rises xs → IsPartitionedBy (λ x. before (key x) k) xs
  partitioned k xs a = λ i j d h l t. grind (arith, common_steps, o.transitive (key (get_or xs i d)) (key (get_or xs j d)) k, IsInOrder-at (λ x y. before (key x) (key y)) xs i j d a, cases_lt i j)

  -- what follows from the last one, if it is looked at first

  pub last_lies : (k : K) (xs : List X) (n : ℕ) (last : X) → n ≡ length xs → 0 < n → last ≡ get_or xs (n - 1) last → key last ≡ k → LiesAt key k xs (n - 1)
  last_lies k xs n last all some at e = (omega arith, λ d. ap key (sym (get_or_read_under xs (n - 1) n last d at (omega arith) all)) ∙ e)

  -- each comes before the key, if the last one does
  pub all_before : (k : K) (xs : List X) (n : ℕ) (last : X) → Rises xs → n ≡ length xs → last ≡ get_or xs (n - 1) last → before (key last) k ≡ true → (i : ℕ) (d : X) → i < n
      → before (key (get_or xs i d)) k ≡ true
  all_before k xs n last a all at h = λ i d l.
      let top : before (key (get_or xs (n - 1) d)) k ≡ true = ap (λ x. before (key x) k) (sym (get_or_read_under xs (n - 1) n last d at (omega arith) all)) ∙ h in
      partitioned k xs a i (n - 1) d (omega arith) (omega arith) top

  -- and then one belongs at the end
  pub end_belongs : (k : K) (xs : List X) (n : ℕ) → n ≡ length xs → ((i : ℕ) (d : X) → i < n → before (key (get_or xs i d)) k ≡ true) → BelongsAt before key k xs n
  end_belongs k xs n all h = (omega arith, end_point (λ x. before (key x) k ≡ true) (λ x. before k (key x) ≡ true) xs n all h)

  -- the place of an element

  pub first_differs : (k : K) (x : X) (xs : List X) (place : ℕ) → ComesBefore (λ x y. before (key x) (key y)) x xs → LiesAt key k xs place → key x ≡ k → ⊥
  first_differs k x xs place c lies e =
      let one : X = get_or xs place x in
      differ (key x) (key one) (ComesBefore-at (λ x y. before (key x) (key y)) x one xs c (IsIn-get_or xs place x lies.0)) (e ∙ sym (lies.1 x))

  later_differ : (k : K) (x : X) (xs : List X) → ComesBefore (λ x y. before (key x) (key y)) x xs → key x ≡ k → (y : X) → IsIn y xs → key y ≡ k → ⊥
  later_differ k x xs c e y h f = differ (key x) (key y) (ComesBefore-at (λ x y. before (key x) (key y)) x y xs c h) (e ∙ sym f)

  -- the place at which an element belongs
  pub apart_from : (k : K) (xs : List X) (place : ℕ) → BelongsAt before key k xs place → (x : X) → IsIn x xs → key x ≡ k → ⊥
  apart_from k xs place h x m e = let at = IsIn-place x xs m in grind (arith, common_steps, differ, h.1.0 at.0 x, h.1.1 at.0 x, cases_lt at.0 place)

  pub insert_belongs : (x : X) (xs : List X) (place : ℕ) → BelongsAt before key (key x) xs place → insert xs place x ≡ put (λ x y. before (key x) (key y)) x xs
  insert_belongs x xs place h = insert-put (λ x y. before (key x) (key y)) x xs place h.0 (h.1.0, λ i d l m. behind (key x) (key (get_or xs i d)) (h.1.1 i d l m))

  -- a test of the key
  module _ (k : K) (p : X → Bool) (yes : (x : X) → key x ≡ k → p x ≡ true) (no : (x : X) → (key x ≡ k → ⊥) → p x ≡ false) where
    pub any_lies : (xs : List X) (place : ℕ) → LiesAt key k xs place → list_any p xs ≡ true
    any_lies [] place h = let within : place < 0 = h.0 in absurd (omega arith)
    any_lies (x ∷ xs) place h = list_any-from_IsIn p (get_or (x ∷ xs) place x) (x ∷ xs) (IsIn-get_or (x ∷ xs) place x h.0) (yes (get_or (x ∷ xs) place x) (h.1 x))

    pub none_belongs : (xs : List X) (place : ℕ) → BelongsAt before key k xs place → list_any p xs ≡ false
    none_belongs xs place h = list_any-none p xs (λ x m. no x (apart_from k xs place h x m))

    pub find_lies : (xs : List X) (place : ℕ) → Rises xs → LiesAt key k xs place → slice_get xs place ≡ find p xs
    find_lies [] place a h = absurd (omega (arith, h.0))
    find_lies (x ∷ xs) zero a h = grind (arith, common_steps, yes x (h.1 x))
    find_lies (x ∷ xs) (suc place) a h = grind (arith, common_steps, find_lies xs place a.1 (omega (arith, h.0), λ d. h.1 d), no x (first_differs k x xs place a.0 (omega (arith, h.0), λ d. h.1 d)))

    pub filter_lies : (xs : List X) (place : ℕ) (d : X) → Rises xs → LiesAt key k xs place → filter p xs ≡ get_or xs place d ∷ []
    filter_lies [] place d a h = absurd (omega (arith, h.0))
    filter_lies (x ∷ xs) zero d a h = grind (arith, common_steps, yes x (h.1 x), filter-none p xs (λ y m. no y (later_differ k x xs a.0 (h.1 x) y m)))
    filter_lies (x ∷ xs) (suc place) d a h = let later : LiesAt key k xs place = (omega (arith, h.0), λ d. h.1 d) in
        grind (arith, common_steps, filter_lies xs place d a.1 later, no x (first_differs k x xs place a.0 later))

    pub remove_lies : (xs : List X) (place : ℕ) → Rises xs → LiesAt key k xs place → remove xs place ≡ filter (λ x. not (p x)) xs
    remove_lies [] place a h = absurd (omega (arith, h.0))
    remove_lies (x ∷ xs) zero a h = grind (arith, common_steps, yes x (h.1 x), filter-all (λ y. not (p y)) xs (λ y m. ap not (no y (later_differ k x xs a.0 (h.1 x) y m))))
    remove_lies (x ∷ xs) (suc place) a h = let later : LiesAt key k xs place = (omega (arith, h.0), λ d. h.1 d) in
        grind (arith, common_steps, remove_lies xs place a.1 later, no x (first_differs k x xs place a.0 later))
