-- The pending records in rising number: what is found, added, changed and taken out.
use Rattle.ckpt_core.proofs.Names.{◌≡◌, ℕ, zero, suc, ◌+◌, ◌<◌, Bool, true, false, not, cond, ltb, eqb, List, [], ◌∷◌, ◌++◌, map, length, get_or, Some, refl, sym, ap, subst, ◌∙◌, inl, inr, ⊎_elim}
use Rattle.ckpt_core.proofs.Names.{arith, count_by, find, filter, list_any, remove, slice_set, from_bool, cases_Bool, cond_both, both_ways, lt-ltb, ltb-true, eqb-true, eq-eqb, ne_eqb, nat_tests}
use Rattle.ckpt_core.proofs.Names.{list_any-append, slice_get-get_or, SubtaskId, IsIn, IsInOrder, LiesAt, Record, has_acknowledged, acknowledged, count_by-cons, count_by-append, count_by-map}
use Rattle.ckpt_core.proofs.Names.{count_by-same, IsIn-from_map, IsIn-from_filter, IsIn-append_cases, IsInOrder-append, IsInOrder-filter, IsInOrder-map, ComesBefore-at, filter-same, filter-filter}
use Rattle.ckpt_core.proofs.Names.{numbers_in_order, first_differs, get_or_any, IsPending, without_ack, without-with_ack, has_id, id_of, find-place, remove-place, is_checkpoint, id_before, acked}
use Rattle.ckpt_core.proofs.Names.{retracted, AreKept, map_itself, map-map, only_one, common_steps}

-- the record of this number changed
abbrev pub changed : ℕ → (Record → Record) → List Record → List Record
changed id f rs = map (λ r. cond (has_id id r) (f r) r) rs

-- a test as a number
pub from_bool-cond : (b : Bool) → from_bool b ≡ cond b 1 0
from_bool-cond true = refl
from_bool-cond false = refl

-- in rising number, the others have other numbers

others : (id : ℕ) (r : Record) (rs : List Record) → IsInOrder id_before (r ∷ rs) → has_id id r ≡ true → (s : Record) → IsIn s rs → has_id id s ≡ false
others id r rs order e s h = grind (arith, common_steps, ComesBefore-at, eqb-true, ltb-true, ne_eqb)

pub find-from_IsIn : (id : ℕ) (q : Record) (rs : List Record) → IsInOrder id_before rs → IsIn q rs → has_id id q ≡ true → find (has_id id) rs ≡ Some q
find-from_IsIn id q [] order h e = absurd h
find-from_IsIn id q (r ∷ rs) order (inl same) e = grind (arith, common_steps)
find-from_IsIn id q (r ∷ rs) order (inr h) e = grind (arith, common_steps, both_ways, cases_Bool, others, find-from_IsIn id q rs order.1 h e)

-- what stands at a place lies there by its own number
pub its_place : (place : ℕ) (r : Record) (rs : List Record) → place < length rs → r ≡ get_or rs place r → LiesAt id_of r.id rs place
its_place place r rs within is = (within, λ d. ap id_of (get_or_any rs place d r within ∙ sym is))

-- a look-up finds what is at the place of the number
pub found_at : (id place : ℕ) (r : Record) (rs : List Record) → IsInOrder id_before rs → LiesAt id_of id rs place → r ≡ get_or rs place r → find (has_id id) rs ≡ Some r
found_at id place r rs order at is = grind (arith, common_steps, find-place, slice_get-get_or)

-- one more

pub AreKept-added : (p : Record) (rs : List Record) (n : ℕ) → AreKept rs n → IsPending p → ((r : Record) → IsIn r rs → r.id < p.id) → AreKept (rs ++ p ∷ []) (n + cond (is_checkpoint p) 1 0)
AreKept-added p rs n kept pending newest = record {
  in_order = IsInOrder-append id_before rs (p ∷ []) kept.in_order (tt, tt) (λ q s h k. rw (only_one s p k) (lt-ltb q.id p.id (newest q h)));
  pending = λ r h. ⊎_elim (λ k. kept.pending r k) (λ (k : IsIn r (p ∷ [])). rw (only_one r p k) pending) (IsIn-append_cases r rs (p ∷ []) h);
  counted = omega (arith, kept.counted, count_by-append is_checkpoint rs (p ∷ []), count_by-cons is_checkpoint p []);
}

-- one changed

pub set-place : (id : ℕ) (f : Record → Record) (r w : Record) (rs : List Record) (place : ℕ) → IsInOrder id_before rs → LiesAt id_of id rs place → r ≡ get_or rs place r → w ≡ f r →
    slice_set rs place w ≡ changed id f rs
set-place id f r w [] place order at is new = let within : place < 0 = at.0 in absurd (omega arith)
set-place id f r w (s ∷ rs) zero order at is new = let here : has_id id s ≡ true = eq-eqb s.id id (at.1 s) in
    let kept : changed id f rs ≡ rs = map_itself (λ q. cond (has_id id q) (f q) q) rs (λ q h. ap (λ b. cond b (f q) q) (others id s rs order here q h)) in
    ap (λ q. q ∷ rs) (new ∙ ap f is) ∙ ap (λ qs. f s ∷ qs) (sym kept) ∙ ap (λ b. cond b (f s) s ∷ changed id f rs) (sym here)
set-place id f r w (s ∷ rs) (suc place) order at is new =
    let later : LiesAt id_of id rs place = (omega arith, λ d. at.1 d) in let other : has_id id s ≡ false = ne_eqb s.id id (first_differs id_of numbers_in_order id s rs place order.0 later) in
    ap (λ qs. s ∷ qs) (set-place id f r w rs place order.1 later is new) ∙ ap (λ b. cond b (f s) s ∷ changed id f rs) (sym other)

pub AreKept-changed : (id place : ℕ) (f : Record → Record) (r w : Record) (rs : List Record) (n : ℕ) → AreKept rs n → LiesAt id_of id rs place → r ≡ get_or rs place r → w ≡ f r →
    ((s : Record) → (f s).id ≡ s.id) → ((s : Record) → is_checkpoint (f s) ≡ is_checkpoint s) → ((s : Record) → find (has_id id) rs ≡ Some s → IsPending (f s)) → AreKept (slice_set rs place w) n
AreKept-changed id place f r w rs n kept at is new same kind pending = let one : Record → Record = λ s. cond (has_id id s) (f s) s in
    let number : (s : Record) → (one s).id ≡ s.id = λ s. cond_both (has_id id s) (f s) s (λ q. q.id ≡ s.id) (λ e. same s) (λ e. refl) in
    let sort : (s : Record) → is_checkpoint (one s) ≡ is_checkpoint s = λ s. cond_both (has_id id s) (f s) s (λ q. is_checkpoint q ≡ is_checkpoint s) (λ e. kind s) (λ e. refl) in
    let each : (s : Record) → IsIn s (changed id f rs) → IsPending s = λ s h. let q = IsIn-from_map one s rs h in
    subst IsPending (sym q.2) (cond_both (has_id id q.0) (f q.0) q.0 IsPending (λ e. pending q.0 (find-from_IsIn id q.0 rs kept.in_order q.1 e)) (λ e. kept.pending q.0 q.1)) in
    rw (set-place id f r w rs place kept.in_order at is new) (record {
      in_order = IsInOrder-map id_before id_before one rs (λ q s h. ap (λ k. ltb k (one s).id) (number q) ∙ ap (ltb q.id) (number s) ∙ h) kept.in_order;
      pending = each;
      counted = kept.counted ∙ sym (count_by-map is_checkpoint one rs ∙ count_by-same (λ s. is_checkpoint (one s)) is_checkpoint rs (λ s h. sort s));
    })

-- one less

pub count-removed : (place : ℕ) (r : Record) (rs : List Record) → place < length rs → r ≡ get_or rs place r → count_by is_checkpoint (remove rs place) + cond (is_checkpoint r) 1 0
    ≡ count_by is_checkpoint rs
count-removed place r rs within is = grind (arith, common_steps)

pub AreKept-removed : (id place m : ℕ) (r : Record) (rs : List Record) (n : ℕ) → AreKept rs n → LiesAt id_of id rs place → r ≡ get_or rs place r → m + cond (is_checkpoint r) 1 0 ≡ n →
    AreKept (remove rs place) m
AreKept-removed id place m r rs n kept at is count =
    let keep : Record → Bool = λ s. not (has_id id s) in let left : remove rs place ≡ filter keep rs = remove-place id rs place kept.in_order at in record {
      in_order = subst (IsInOrder id_before) (sym left) (IsInOrder-filter id_before keep rs kept.in_order);
      pending = rw left (λ s h. kept.pending s (IsIn-from_filter keep s rs h).0);
      counted = omega (arith, kept.counted, count-removed place r rs at.0 is);
    }

-- all that have none of these numbers, one number more
pub filter-one_more : (ids : List ℕ) (id : ℕ) (rs : List Record) → filter (λ r. not (eqb r.id id)) (filter (λ r. not (list_any (λ i. eqb r.id i) ids)) rs)
    ≡ filter (λ r. not (list_any (λ i. eqb r.id i) (ids ++ id ∷ []))) rs
filter-one_more ids id rs = grind (arith, common_steps, filter-filter, filter-same, list_any-append, nat_tests)

pub count_by-others : {X : Type 0} (p : X → Bool) (xs : List X) → count_by p xs + count_by (λ x. not (p x)) xs ≡ length xs
count_by-others p [] = refl
count_by-others {X} p (x ∷ xs) = grind (arith, common_steps, count_by-others p xs)

-- an acknowledgement that is taken back leaves what there was
pub retracted-acked : (id : ℕ) (s : SubtaskId) (files : List ℕ) (rs : List Record) → IsInOrder id_before rs → ((r : Record) → find (λ q. eqb q.id id) rs ≡ Some r → has_acknowledged r s ≡ false) →
    retracted id s (acked id s files rs) ≡ rs
retracted-acked id s files rs order new =
    let ack : Record → Record = λ r. cond (has_id id r) (acknowledged r s files) r in let back : Record → Record = λ r. cond (has_id id r) (without_ack s r) r in
    let each : (r : Record) → IsIn r rs → back (ack r) ≡ r = λ r h. cond_both (has_id id r) (acknowledged r s files) r (λ q. back q ≡ r)
    (λ e. rw e (without-with_ack r s files (new r (find-from_IsIn id r rs order h e)))) (λ e. rw e refl) in map-map back ack rs ∙ map_itself (λ r. back (ack r)) rs each
