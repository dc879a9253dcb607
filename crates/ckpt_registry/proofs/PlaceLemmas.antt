-- What is found in the row of what each record holds at the place of a number, and what a change at that place leaves.
use Rattle.ckpt_registry.proofs.Names.{◌≡◌, ℕ, suc, ◌<◌, Bool, true, false, not, eqb, ltb, length, get_or, map, take, drop, set, List, [], ◌∷◌, ◌++◌, sym, ap, subst, ◌∙◌, ⊎_elim, ◌⊎◌, inl, filter}
use Rattle.ckpt_registry.proofs.Names.{insert, remove, cases_Bool, eq-eqb, ne_eqb, append-nil, map-append, set-get_or, set_split, AreDistinct, IsIn, IsAscendingSet, BelongsAt, LiesAt}
use Rattle.ckpt_registry.proofs.Names.{numbers_in_order, AreDistinct-apart, AreDistinct-from_order, AreDistinct-right, IsIn-map, IsInOrder-map, IsInOrder-put_between, filter-none, IsInOrder-of_keys}
use Rattle.ckpt_registry.proofs.Names.{apart_from, filter_lies, insert_belongs, remove_lies, Holding, AreRising}
use Rattle.ckpt_registry.proofs.HoldingLemmas.{number, has_id, parts_in}

abbrev numbers : List Holding → List ℕ
numbers hs = map number hs

numbers_rise : (hs : List Holding) → AreRising hs → IsAscendingSet (numbers hs)
numbers_rise hs a = IsInOrder-map (λ g h. ltb g.id h.id) ltb number hs (λ g h e. e) a

-- The place at which a record was found. The others have other numbers.

module _ (id place : ℕ) (hs : List Holding) (a : AreRising hs) (found : LiesAt number id hs place) where
  yes : (h : Holding) → h.id ≡ id → has_id id h ≡ true
  yes h e = eq-eqb h.id id e

  no : (h : Holding) → (h.id ≡ id → ⊥) → has_id id h ≡ false
  no h ne = ne_eqb h.id id ne

  pub parts_found : (h : Holding) → h ≡ get_or hs place h → parts_in (filter (has_id id) hs) ≡ h.parts
  parts_found h is = ap parts_in (filter_lies number numbers_in_order id (has_id id) yes no hs place h a found ∙ ap (λ x. x ∷ []) (sym is)) ∙ append-nil h.parts

  pub remove_found : remove hs place ≡ filter (λ (x : Holding). not (eqb x.id id)) hs
  remove_found = remove_lies number numbers_in_order id (has_id id) yes no hs place a found

module _ (place : ℕ) (hs : List Holding) (h : Holding) (within : place < length hs) (is : h ≡ get_or hs place h) where
  pub split_at : hs ≡ take place hs ++ h ∷ drop (suc place) hs
  split_at = sym (ap (set hs place) is ∙ set-get_or hs place h) ∙ set_split hs place h within

  -- the numbers, with k at the place
  abbrev around : ℕ → List ℕ
  around k = numbers (take place hs) ++ k ∷ numbers (drop (suc place) hs)

  numbers_split : numbers hs ≡ around h.id
  numbers_split = ap numbers split_at ∙ map-append number (take place hs) (h ∷ drop (suc place) hs)

  pub apart_at : AreRising hs → (x : Holding) → IsIn x (take place hs) ⊎ IsIn x (drop (suc place) hs) → x.id ≡ h.id → ⊥
  apart_at a x side same =
      let apart : AreDistinct (around h.id) = subst (λ ks. AreDistinct ks) numbers_split (AreDistinct-from_order numbers_in_order (numbers hs) (numbers_rise hs a)) in
      ⊎_elim (λ k. AreDistinct-apart (numbers (take place hs)) (h.id ∷ numbers (drop (suc place) hs)) apart x.id (IsIn-map number x (take place hs) k) (inl same))
      (λ k. (AreDistinct-right (numbers (take place hs)) (h.id ∷ numbers (drop (suc place) hs)) apart).0
      (subst (λ n. IsIn n (numbers (drop (suc place) hs))) same (IsIn-map number x (drop (suc place) hs) k))) side

  pub rising_same : (w : Holding) → AreRising hs → w.id ≡ h.id → AreRising (take place hs ++ w ∷ drop (suc place) hs)
  rising_same w a same = IsInOrder-of_keys ltb number (take place hs ++ w ∷ drop (suc place) hs) (rw (map-append, same) (subst (λ ks. IsAscendingSet ks) numbers_split (numbers_rise hs a)))

-- the place at which a record belongs that is not there

pub none_found : (id place : ℕ) (hs : List Holding) → BelongsAt ltb number id hs place → filter (has_id id) hs ≡ []
none_found id place hs h = filter-none (has_id id) hs (λ x k. ne_eqb x.id id (apart_from number numbers_in_order id hs place h x k))

pub rising_insert : (x : Holding) (hs : List Holding) (place : ℕ) → AreRising hs → BelongsAt ltb number x.id hs place → AreRising (insert hs place x)
rising_insert x hs place a belongs =
    let before : Holding → Holding → Bool = λ g h. ltb g.id h.id in
    let turns : (h : Holding) → IsIn h hs → before h x ≡ false → before x h ≡ true = λ h k e.
    ⊎_elim (λ t. t) (λ t. absurd (apart_from number numbers_in_order x.id hs place belongs h k (numbers_in_order.total h.id x.id e t))) (cases_Bool (before x h)) in
    rw (insert_belongs number numbers_in_order x hs place belongs) (IsInOrder-put_between before (λ g h i. numbers_in_order.transitive g.id h.id i.id) x hs turns a)
