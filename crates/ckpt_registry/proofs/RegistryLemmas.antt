-- How a change of the parts changes the uses that a registry stands for.
use Rattle.ckpt_registry.proofs.Names.{◌≡◌, ℕ, ◌+◌, ◌-◌, ◌<◌, ◌≤◌, ◌^◌, Bool, true, false, not, eqb, ltb, ◌&&◌, ◌||◌, List, [], ◌∷◌, ◌++◌, map, length, refl, sym, ap, subst, ◌∙◌, inl, inr, ⊎_elim}
use Rattle.ckpt_registry.proofs.Names.{arith, count_by, Some, unwrap_or, filter, IsDistinct, AllByRecursion, length-map, IsPermutation, IsSorted, nat_cmp, sum_by-IsPermutation, lookup, keys_of}
use Rattle.ckpt_registry.proofs.Names.{and_parts, cases_Bool, cases_lt, both_ways, cond-true, cond-false, ltb-true, ltb-false, lt-ltb, le-ltb, eq-eqb, eqb-true, eqb-false, not-true, or-false}
use Rattle.ckpt_registry.proofs.Names.{filter-append, IsDistinct-head, IsDistinct-tail, index_map_len, IsUnique, IsIn, IsInOrder, in_order_once, AreDistinct, IsAscending, ascending_set, SubtaskId}
use Rattle.ckpt_registry.proofs.Names.{Use, Holder, Subtask, Pin, count, is_present, released, same_holder, use_before, IsIn-append_left, IsIn-append_cases, IsIn-map, IsIn-from_map, IsIn-filter}
use Rattle.ckpt_registry.proofs.Names.{IsIn-from_filter, IsIn-in_order_once, AreDistinct-from_order, IsIn-from_in_order_once, IsInOrder-in_order_once, IsInOrder-filter, same_from_members, filter-same}
use Rattle.ckpt_registry.proofs.Names.{filter-filter, numbers_in_order, IsAscending-from_sorted, set-from_distinct, uses_in_order, Counts, counter, counted_once, AreInRange, Pinner, Acknowledged}
use Rattle.ckpt_registry.proofs.Names.{AreRising, Extends, parts_of, uses_in, AreKept, IsKept, each_file, own_files, pinned_by, pins_in, pins_of_records, stored, in_use, AreCounted, StandsOnce}
use Rattle.ckpt_registry.proofs.Names.{IsSound, IsEachOnce, HasNoUse, triples, files_by, is_owned, is_ended, without, after_end, files_in, count_by-map, counted-from_IsIn, IsIn-from_counted}
use Rattle.ckpt_registry.proofs.Names.{times-from_IsIn, times_at_most_once, AreDistinct-from_times, IsIn-from_times, one_if, times, common_steps, keys}
use Rattle.ckpt_registry.proofs.CounterLemmas.{AreInRange-unchanged, counter-unchanged, get-from_counter, counted_once-above, counted_once-zero, counted_once-le, above_from_counted_once}
use Rattle.ckpt_registry.proofs.CounterLemmas.{zero_from_counted_once}
use Rattle.ckpt_registry.proofs.HoldingLemmas.{count-used_by}
use Rattle.ckpt_registry.proofs.ListLemmas.{count_by-in_order_once, in_order_once-filter, count_by-added, in_order_once-added, count_by-filtered}
use Rattle.ckpt_registry.proofs.PinLemmas.{pins_in-extended, pins_in-holder, pins_in-push, uses_in-holder}
use Rattle.ckpt_registry.proofs.SoundLemmas.{AreCounted-acknowledged, AreCounted-kept, AreCounted-pushed, count-stored, is_present-stored}

-- files and their uses

abbrev file_of : Use → ℕ
file_of u = u.file

count-from_file : (f : ℕ) (us : List Use) → IsIn f (map file_of us) → 0 < count us f
count-from_file f us h = rw (← count_by-map (λ (x : ℕ). eqb x f) file_of us) (times-from_IsIn f (map file_of us) h)

file_from_count : (f : ℕ) (us : List Use) → 0 < count us f → IsIn f (map file_of us)
file_from_count f us h = IsIn-from_times f (map file_of us) (rw (count_by-map (λ (x : ℕ). eqb x f) file_of us) h)

pub count-triples : (id : ℕ) (holder : Holder) (files : List ℕ) (f : ℕ) → count (triples id holder files) f ≡ times f files
count-triples id holder files f = let make : ℕ → Use = λ x. record { id = id; holder = holder; file = x } in count_by-map (λ (u : Use). eqb u.file f) make files

AreDistinct-triples : (id : ℕ) (holder : Holder) (files : List ℕ) → AreDistinct files → AreDistinct (triples id holder files)
AreDistinct-triples id holder [] a = tt
AreDistinct-triples id holder (x ∷ files) a =
    let make : ℕ → Use = λ y. record { id = id; holder = holder; file = y } in
    (λ h. let q = IsIn-from_map make (make x) files h in a.0 (rw (ap file_of q.2) q.1), AreDistinct-triples id holder files a.1)

triples-holder : (id : ℕ) (holder : Holder) (files : List ℕ) (u : Use) → IsIn u (triples id holder files) → (u.id ≡ id) × (u.holder ≡ holder)
triples-holder id holder files u h = grind (arith, common_steps, IsIn-from_map)

-- what is counted

module _ (a : Acknowledged) (p : List Pinner) (counts : Counts) (room : ℕ) (s : IsSound a p counts room) (f : ℕ) where
  same_count : count (stored a p) f ≡ count (in_use a p) f
  same_count = s.once (λ (u : Use). eqb u.file f)

  pub count-in_use : counter counts f + pins_of_records a f p ≡ count (in_use a p) f
  count-in_use = sym (count-stored a p counts s.parts f) ∙ same_count

  pub is_present-in_use : ltb 0 (counter counts f) ≡ is_present (in_use a p) f
  is_present-in_use = sym (is_present-stored a p counts s.parts f) ∙ ap (ltb 0) same_count

  pub below-in_use : count (in_use a p) f < 2 ^ 32
  below-in_use = omega (arith, same_count, s.parts.below f)

pub in_use-in_order : (a : Acknowledged) (p : List Pinner) → IsInOrder use_before (in_use a p)
in_use-in_order a p = IsInOrder-in_order_once uses_in_order (stored a p)

-- the files that have a counter are the files in use

key_from_lookup : (f n : ℕ) (es : List (ℕ × ℕ)) → lookup (eqb f) es ≡ Some n → IsIn f (keys_of es)
key_from_lookup f n [] h = grind (arith, common_steps)
key_from_lookup f n (e ∷ es) h = grind (arith, common_steps, key_from_lookup f n es)

lookup_from_key : (f : ℕ) (es : List (ℕ × ℕ)) → IsIn f (keys_of es) → (n : ℕ) × (lookup (eqb f) es ≡ Some n)
lookup_from_key f [] h = absurd h
lookup_from_key f (e ∷ es) h =
    let later : eqb f e.0 ≡ false → (n : ℕ) × (lookup (eqb f) (e ∷ es) ≡ Some n) = λ t.
    let r = lookup_from_key f es (⊎_elim (λ q. absurd (eqb-false f e.0 t q)) (λ q. q) h) in (r.0, cond-false (eqb f e.0) (Some e.1) (lookup (eqb f) es) t ∙ r.1) in
    ⊎_elim (λ t. (e.1, cond-true (eqb f e.0) (Some e.1) (lookup (eqb f) es) t)) later (cases_Bool (eqb f e.0))

all_at : (P : ℕ → Type 0) (x : ℕ) (xs : List ℕ) → AllByRecursion P xs → IsIn x xs → P x
all_at P x [] a h = absurd h
all_at P x (y ∷ xs) a (inl e) = subst P (sym e) a.0
all_at P x (y ∷ xs) a (inr h) = all_at P x xs a.1 h

AreDistinct-from_distinct : (ks : List ℕ) → IsDistinct eqb ks → AreDistinct ks
AreDistinct-from_distinct [] h = tt
AreDistinct-from_distinct (k ∷ ks) h =
    (λ q. both_ways (eqb k k) (all_at (λ y. eqb k y ≡ false) k ks (IsDistinct-head eqb k ks h) q) (eq-eqb k k refl), AreDistinct-from_distinct ks (IsDistinct-tail eqb k ks h))

count_by-true : (xs : List ℕ) → count_by (λ x. true) xs ≡ length xs
count_by-true [] = refl
count_by-true (x ∷ xs) = grind (arith, common_steps, count_by-true xs)

pub index_map_len-in_use : (a : Acknowledged) (p : List Pinner) (counts : Counts) (room : ℕ) → IsSound a p counts room → IsUnique eqb counts
    → index_map_len counts ≡ length (ascending_set (map (λ u. u.file) (in_use a p)))
index_map_len-in_use a p counts room s unique =
    let keys : List ℕ = keys_of counts.entries in
    let files : List ℕ = map file_of (in_use a p) in
    let forth : (z : ℕ) → IsIn z (ascending_set keys) → IsIn z (ascending_set files) = λ z h.
    let found = lookup_from_key z counts.entries (IsIn-from_in_order_once ltb z keys h) in
    let above : 0 < counter counts z = omega (arith, ap (λ o. unwrap_or o 0) found.1, (s.parts.range z found.0 found.1).0) in
    IsIn-in_order_once numbers_in_order z files
    (file_from_count z (in_use a p) (ltb-true 0 (count (in_use a p) z) (sym (is_present-in_use a p counts room s z) ∙ lt-ltb 0 (counter counts z) above))) in
    let back : (z : ℕ) → IsIn z (ascending_set files) → IsIn z (ascending_set keys) = λ z h.
    let used : ltb 0 (count (in_use a p) z) ≡ true = lt-ltb 0 (count (in_use a p) z) (count-from_file z (in_use a p) (IsIn-from_in_order_once ltb z files h)) in
    IsIn-in_order_once numbers_in_order z keys
    (key_from_lookup z (counter counts z) counts.entries (get-from_counter counts z (ltb-true 0 (counter counts z) (is_present-in_use a p counts room s z ∙ used)))) in
    let same : ascending_set keys ≡ ascending_set files = same_from_members numbers_in_order _ _ (IsInOrder-in_order_once numbers_in_order keys)
    (IsInOrder-in_order_once numbers_in_order files) forth back in
    sym (length-map counts.entries (λ e. e.0)) ∙ sym (count_by-true keys) ∙ sym (count_by-in_order_once numbers_in_order (λ x. true) keys (AreDistinct-from_distinct keys unique)) ∙ count_by-true
    (ascending_set keys) ∙ ap length same

-- what is added

module _ (a : Acknowledged) (p : List Pinner) (b : Acknowledged) (q : List Pinner) (id : ℕ) (holder : Holder) (files : List ℕ)
    (adds : (t : Use → Bool) → count_by t (stored b q) ≡ count_by t (stored a p) + count_by t (triples id holder files)) where
  pub in_use-added : in_use b q ≡ in_order_once use_before (in_use a p ++ triples id holder files)
  in_use-added = in_order_once-added uses_in_order (stored a p) (stored b q) (triples id holder files) adds

  pub StandsOnce-added : StandsOnce (stored a p) → IsEachOnce files → HasNoUse (in_use a p) id holder → StandsOnce (stored b q)
  StandsOnce-added once each unused =
      count_by-added uses_in_order (stored a p) (stored b q) (triples id holder files) adds once
      (AreDistinct-triples id holder files each)
      (λ u h k. let same = triples-holder id holder files u k in unused u h same.0 same.1)

-- nothing is added if there is no file
pub in_use-none : (a : Acknowledged) (p : List Pinner) (id : ℕ) (holder : Holder) (files : List ℕ) → files ≡ [] → in_use a p ≡ in_order_once use_before (in_use a p ++ triples id holder files)
in_use-none a p id holder files none =
    in_use-added a p a p id holder files (λ t. let no : count_by t (triples id holder files) ≡ 0 = ap (λ fs. count_by t (triples id holder fs)) none in omega (arith, no))

-- what is taken away

pub stored-without : (a : Acknowledged) (p : List Pinner) (b : Acknowledged) (q : List Pinner) (owners : List ℕ) → uses_in b.items ≡ without owners (uses_in a.items)
    → pins_in b q ≡ without owners (pins_in a p) → stored b q ≡ without owners (stored a p)
stored-without a p b q owners h k = grind (arith, common_steps)

stays_other : (x y z : Bool) → z ≡ false → not x ≡ not (x || (y && z))
stays_other x y z h3 = grind (arith, common_steps)

stays_pin : (x y z : Bool) → z ≡ true → (not y && not x) ≡ not (x || (y && z))
stays_pin x y z h3 = grind (arith, common_steps)

is_owned-one : (id : ℕ) (u : Use) → is_owned (id ∷ []) u ≡ eqb u.id id
is_owned-one id u = or-false (eqb u.id id)

pub stored-after_end : (a : Acknowledged) (p : List Pinner) (b : Acknowledged) (q : List Pinner) (id : ℕ) (owners : List ℕ)
    → uses_in b.items ≡ without owners (uses_in a.items) → pins_in b q ≡ without owners (without (id ∷ []) (pins_in a p)) → stored b q ≡ after_end id owners (stored a p)
stored-after_end a p b q id owners h k =
    let stays : Use → Bool = λ u. not (is_ended id owners u) in
    let uses : without owners (uses_in a.items) ≡ filter stays (uses_in a.items) = filter-same _ stays (uses_in a.items)
    (λ u m. stays_other (is_owned owners u) (eqb u.id id) (same_holder u.holder Pin) (uses_in-holder a.items u m)) in
    let pins : without owners (without (id ∷ []) (pins_in a p)) ≡ filter stays (pins_in a p) = filter-filter _ _ (pins_in a p)
    ∙ filter-same _ stays (pins_in a p)
    (λ u m. ap (λ t. not t && not (is_owned owners u)) (is_owned-one id u) ∙ stays_pin (is_owned owners u) (eqb u.id id) (same_holder u.holder Pin) (pins_in-holder a p u m)) in
    rw (h, k, uses, pins) (sym (filter-append stays (uses_in a.items) (pins_in a p)))

pub in_use-filtered : (a : Acknowledged) (p : List Pinner) (b : Acknowledged) (q : List Pinner) (t : Use → Bool) → stored b q ≡ filter t (stored a p) → in_use b q ≡ filter t (in_use a p)
in_use-filtered a p b q t h = ap (in_order_once use_before) h ∙ in_order_once-filter uses_in_order t (stored a p)

pub StandsOnce-filtered : (a : Acknowledged) (p : List Pinner) (b : Acknowledged) (q : List Pinner) (t : Use → Bool) → stored b q ≡ filter t (stored a p) → StandsOnce (stored a p)
    → StandsOnce (stored b q)
StandsOnce-filtered a p b q t h once = subst StandsOnce (sym h) (count_by-filtered uses_in_order t (stored a p) once)

-- what is released

pub released-from_counts : (xs : List ℕ) (m n : Counts) (us vs : List Use) → IsAscending xs → ((f : ℕ) → times f xs + counted_once n f ≡ counted_once m f)
    → ((f : ℕ) → ltb 0 (counter m f) ≡ is_present us f) → ((f : ℕ) → ltb 0 (counter n f) ≡ is_present vs f) → xs ≡ released us vs
released-from_counts xs m n us vs up moved before after =
    let files : List ℕ = map file_of us in
    let gone : ℕ → Bool = λ f. not (is_present vs f) in
    let once : AreDistinct xs = AreDistinct-from_times xs (λ f. omega (arith, moved f, counted_once-le m f)) in
    let forth : (z : ℕ) → IsIn z xs → IsIn z (released us vs) = λ z h.
    let was : 0 < counter m z = above_from_counted_once m z (omega (arith, moved z, times-from_IsIn z xs h)) in
    let is : counter n z ≡ 0 = zero_from_counted_once n z (omega (arith, moved z, counted_once-le m z, times-from_IsIn z xs h)) in
    let used = ltb-true 0 (count us z) (sym (before z) ∙ lt-ltb 0 (counter m z) was) in
    IsIn-filter gone z (ascending_set files) (IsIn-in_order_once numbers_in_order z files (file_from_count z us used)) (ap not (sym (after z) ∙ le-ltb 0 (counter n z) (omega (arith, is)))) in
    let back : (z : ℕ) → IsIn z (released us vs) → IsIn z xs = λ z h.
    let k = IsIn-from_filter gone z (ascending_set files) h in
    let was = ltb-true 0 (counter m z) (before z ∙ lt-ltb 0 (count us z) (count-from_file z us (IsIn-from_in_order_once ltb z files k.0))) in
    let is = ltb-false 0 (counter n z) (after z ∙ not-true (is_present vs z) k.1) in
    IsIn-from_times z xs (omega (arith, moved z, counted_once-above m z was, counted_once-zero n z (omega (arith, is)))) in
    same_from_members numbers_in_order xs (released us vs) (set-from_distinct xs up once) (IsInOrder-filter ltb gone (ascending_set files) (IsInOrder-in_order_once numbers_in_order files)) forth back

pub released-sorted : (xs ys start : List ℕ) (m n : Counts) (us vs : List Use) → IsPermutation xs ys → IsSorted nat_cmp ys → start ≡ []
    → ((f : ℕ) → times f xs + counted_once n f ≡ times f start + counted_once m f) → ((f : ℕ) → ltb 0 (counter m f) ≡ is_present us f)
    → ((f : ℕ) → ltb 0 (counter n f) ≡ is_present vs f) → ys ≡ released us vs
released-sorted xs ys start m n us vs same up none moved before after =
    released-from_counts ys m n us vs (IsAscending-from_sorted ys up) (λ f. omega (arith, moved f, ap (times f) none, sum_by-IsPermutation (λ x. one_if (eqb x f)) xs ys same)) before after

-- the parts stay sound

pub IsSound-filtered : (a : Acknowledged) (p : List Pinner) (b : Acknowledged) (q : List Pinner) (m n : Counts) (room left : ℕ) (t : Use → Bool) → IsSound a p m room → AreCounted b q n
    → stored b q ≡ filter t (stored a p) → index_map_len n ≤ left → IsSound b q n left
IsSound-filtered a p b q m n room left t s counted kept fits = record { parts = counted; once = StandsOnce-filtered a p b q t kept s.once; has_room = fits }

pub stored-acknowledged : (a : Acknowledged) (p : List Pinner) (b : Acknowledged) (us : List Use) → pins_in b p ≡ pins_in a p
    → ((t : Use → Bool) → count_by t (uses_in b.items) ≡ count_by t (uses_in a.items) + count_by t us) → (t : Use → Bool) → count_by t (stored b p) ≡ count_by t (stored a p) + count_by t us
stored-acknowledged a p b us pins adds t = grind (arith, common_steps)

pub stored-pinned : (a : Acknowledged) (p q : List Pinner) (us : List Use) → pins_in a q ≡ pins_in a p ++ us → (t : Use → Bool) → count_by t (stored a q) ≡ count_by t (stored a p) + count_by t us
stored-pinned a p q us pins t = grind (arith, common_steps)

-- each file is used once more at most, and there is a place for the count
pub below_more : (us : List Use) (fresh reused : List ℕ) → ((f : ℕ) → count us f < 2 ^ 32) → IsEachOnce (fresh ++ reused) → ((f : ℕ) → IsIn f fresh → is_present us f ≡ false)
    → ((f : ℕ) → IsIn f reused → count us f < 2 ^ 32 - 1) → (f : ℕ) → count us f + times f (fresh ++ reused) < 2 ^ 32
below_more us fresh reused below once absent small f =
    let some : 0 < times f (fresh ++ reused) → count us f + times f (fresh ++ reused) < 2 ^ 32 = λ (h : 0 < times f (fresh ++ reused)).
    ⊎_elim
    (λ (k : IsIn f fresh). omega (arith, times_at_most_once f (fresh ++ reused) once, ltb-false 0 (count us f) (absent f k)))
    (λ (k : IsIn f reused). omega (arith, times_at_most_once f (fresh ++ reused) once, small f k))
    (IsIn-append_cases f fresh reused (IsIn-from_times f (fresh ++ reused) h)) in
    ⊎_elim some (λ (h : times f (fresh ++ reused) ≤ 0). omega (arith, h, below f)) (cases_lt 0 (times f (fresh ++ reused)))

pub IsSound-acknowledged : (a : Acknowledged) (p : List Pinner) (b : Acknowledged) (m n : Counts) (room left id : ℕ) (subtask : SubtaskId) (files : List ℕ) → IsSound a p m room → AreRising b.items
    → Extends a b
    → ((t : Use → Bool) → count_by t (uses_in b.items) ≡ count_by t (uses_in a.items) + count_by t (triples id (Subtask subtask) files)) → IsEachOnce files → HasNoUse (in_use a p) id (Subtask subtask)
    → ((f : ℕ) → counter n f ≡ counter m f + times f files) → AreInRange n → index_map_len n ≤ left → ((f : ℕ) → count (in_use a p) f + times f files < 2 ^ 32) → IsSound b p n left
IsSound-acknowledged a p b m n room left id subtask files s ordered more adds each unused raised range fits small =
    let pins : pins_in b p ≡ pins_in a p = pins_in-extended a b p more s.parts.kept in
    let added = stored-acknowledged a p b (triples id (Subtask subtask) files) pins adds in
    let used : (f : ℕ) → count (uses_in b.items) f ≡ count (uses_in a.items) f + times f files = λ f. omega (arith, adds (λ (u : Use). eqb u.file f), count-triples id (Subtask subtask) files f) in
    record {
      parts = AreCounted-acknowledged a b p m n files more ordered used raised range (λ f. omega (arith, small f, s.once (λ (u : Use). eqb u.file f))) s.parts;
      once = StandsOnce-added a p b p id (Subtask subtask) files added s.once each unused;
      has_room = fits;
    }

-- an acknowledgement ran out of memory, and left the uses as they were

stored-kept : (a : Acknowledged) (p : List Pinner) (b : Acknowledged) → AreKept a p → Extends a b → uses_in b.items ≡ uses_in a.items → stored b p ≡ stored a p
stored-kept a p b kept more same = rw (same, pins_in-extended a b p more kept)

pub in_use-kept : (a : Acknowledged) (p : List Pinner) (b : Acknowledged) → AreKept a p → Extends a b → uses_in b.items ≡ uses_in a.items → in_use b p ≡ in_use a p
in_use-kept a p b kept more same = ap (in_order_once use_before) (stored-kept a p b kept more same)

pub IsSound-kept : (a : Acknowledged) (p : List Pinner) (b : Acknowledged) (m n : Counts) (room left : ℕ) → IsSound a p m room → AreRising b.items → Extends a b → uses_in b.items ≡ uses_in a.items
    → n.entries ≡ m.entries → index_map_len n ≤ left → IsSound b p n left
IsSound-kept a p b m n room left s ordered more same entries fits = record {
  parts = AreCounted-kept a b p m n more ordered same (counter-unchanged m n entries) (AreInRange-unchanged m n entries s.parts.range) s.parts;
  once = subst StandsOnce (sym (stored-kept a p b s.parts.kept more same)) s.once;
  has_room = fits;
}

module _ (a : Acknowledged) (p : List Pinner) (one : Pinner) (files : List ℕ) (pins : pinned_by a one.pins ≡ files) where
  added-pinned : (t : Use → Bool) → count_by t (stored a (p ++ one ∷ [])) ≡ count_by t (stored a p) + count_by t (triples one.id Pin files)
  added-pinned = stored-pinned a p (p ++ one ∷ []) (triples one.id Pin files) (pins_in-push a p one ∙ ap (λ fs. pins_in a p ++ triples one.id Pin fs) pins)

  pub in_use-pinned : in_use a (p ++ one ∷ []) ≡ in_order_once use_before (in_use a p ++ triples one.id Pin files)
  in_use-pinned = in_use-added a p a (p ++ one ∷ []) one.id Pin files added-pinned

  pub IsSound-pinned : (m n : Counts) (room left : ℕ) → IsSound a p m room → IsKept a one.pins → IsEachOnce files → HasNoUse (in_use a p) one.id Pin
      → ((f : ℕ) → counter n f ≡ counter m f + times f (own_files one.pins)) → AreInRange n → index_map_len n ≤ left → ((f : ℕ) → count (in_use a p) f + times f files < 2 ^ 32) → IsSound a
      (p ++ one ∷ []) n left
  IsSound-pinned m n room left s kept each unused raised range fits small = record {
    parts = AreCounted-pushed a p one m n kept raised range
        (λ f. let same : times f (pinned_by a one.pins) ≡ times f files = ap (times f) pins in omega (arith, same, small f, s.once (λ (u : Use). eqb u.file f))) s.parts;
    once = StandsOnce-added a p a (p ++ one ∷ []) one.id Pin files added-pinned s.once each unused;
    has_room = fits;
  }

-- the files of a record, by the uses

pub files_by-in_use : (a : Acknowledged) (p : List Pinner) (id : ℕ) → files_by id (in_use a p) ≡ each_file (parts_of a id)
files_by-in_use a p id =
    let test : Use → Bool = λ u. eqb u.id id && not (same_holder u.holder Pin) in
    let named : List ℕ = map file_of (filter test (in_use a p)) in
    let files : List ℕ = files_in (parts_of a id) in
    let forth : (z : ℕ) → IsIn z named → IsIn z files = λ z h.
    let q = IsIn-from_map file_of z (filter test (in_use a p)) h in
    let k = IsIn-from_filter test q.0 (in_use a p) q.1 in
    let both = and_parts (eqb q.0.id id) (not (same_holder q.0.holder Pin)) k.1 in
    let among : IsIn q.0 (uses_in a.items) = ⊎_elim (λ i. i) (λ i. absurd (both_ways (same_holder q.0.holder Pin) (not-true (same_holder q.0.holder Pin) both.1) (pins_in-holder a p q.0 i)))
    (IsIn-append_cases q.0 (uses_in a.items) (pins_in a p) (IsIn-from_in_order_once use_before q.0 (stored a p) k.0)) in
    let here : (eqb q.0.id id && eqb q.0.file z) ≡ true = ap (λ b. b && eqb q.0.file z) both.0 ∙ eq-eqb q.0.file z (sym q.2) in
    IsIn-from_times z files (omega (arith, counted-from_IsIn (λ (v : Use). eqb v.id id && eqb v.file z) q.0 (uses_in a.items) among here, count-used_by a id z)) in
    let back : (z : ℕ) → IsIn z files → IsIn z named = λ z h.
    let q = IsIn-from_counted (λ (v : Use). eqb v.id id && eqb v.file z) (uses_in a.items) (omega (arith, times-from_IsIn z files h, count-used_by a id z)) in
    let both = and_parts (eqb q.0.id id) (eqb q.0.file z) q.2 in
    let passes : test q.0 ≡ true = ap (λ b. b && not (same_holder q.0.holder Pin)) both.0 ∙ ap not (uses_in-holder a.items q.0 q.1) in
    let among = IsIn-filter test q.0 (in_use a p) (IsIn-in_order_once uses_in_order q.0 (stored a p) (IsIn-append_left q.0 (uses_in a.items) (pins_in a p) q.1)) passes in
    subst (λ y. IsIn y named) (eqb-true q.0.file z both.1) (IsIn-map file_of q.0 (filter test (in_use a p)) among) in
    same_from_members numbers_in_order (ascending_set named) (ascending_set files) (IsInOrder-in_order_once numbers_in_order named) (IsInOrder-in_order_once numbers_in_order files)
    (λ z h. IsIn-in_order_once numbers_in_order z files (forth z (IsIn-from_in_order_once ltb z named h)))
    (λ z h. IsIn-in_order_once numbers_in_order z named (back z (IsIn-from_in_order_once ltb z files h)))

pub IsEachOnce-files_by : (id : ℕ) (us : List Use) → IsEachOnce (files_by id us)
IsEachOnce-files_by id us =
    AreDistinct-from_order numbers_in_order (files_by id us) (IsInOrder-in_order_once numbers_in_order (map file_of (filter (λ u. eqb u.id id && not (same_holder u.holder Pin)) us)))
