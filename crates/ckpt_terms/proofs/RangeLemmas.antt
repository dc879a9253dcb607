-- Where a name is in ranges, and what is left of them without it.
use Rattle.ckpt_terms.proofs.Imports.{◌≡◌, ℕ, zero, suc, ◌+◌, ◌-◌, ◌<◌, ◌≤◌, true, false, not, ◌||◌, ltb, leb, eqb, List, [], ◌∷◌, ◌++◌, take, drop, get_or, set, length, refl, sym, ap, subst}
use Rattle.ckpt_terms.proofs.Imports.{◌∙◌, inl, ⊎_elim, arith, length-append, Option, Some, None, is_some, IfSome, All, list_any, range_with_len, cases_Bool, both_ways, ne_eqb, and_from}
use Rattle.ckpt_terms.proofs.Imports.{le-leb, lt-ltb, and_parts, ltb-true, ltb-false, leb-true, append_assoc, length-set, take-append-drop, set_split, take-set, drop-set, All-head, All-tail}
use Rattle.ckpt_terms.proofs.Imports.{All-get_or, All-from_get_or, All-append, All-take, All-drop, All-set, All-cons, list_any_none, list_any_at, list_any-append, IsIn, IsAscendingSet}
use Rattle.ckpt_terms.proofs.Imports.{get_or_any, IsIn-append_right, IsIn-append_left, ComesBefore-at, IsInOrder-filter, filter-all, test-from_IsIn, Span, without_all, row, in_span, joined}
use Rattle.ckpt_terms.proofs.Imports.{names_of, AreRanges, AreKept, HasAt, IsCut}
use Rattle.ckpt_terms.proofs.SpanLemmas.{span, row-from_bounds, row_empty, row_split, in_spans, added_rises, added_is, without-append, without_below, without_above, without_itself}
use Rattle.ckpt_terms.proofs.SpanLemmas.{append_rises, names_append, names_at, rises_behind}
use Rattle.ckpt_terms.proofs.JoinLemmas.{joined_names, joined_some}

-- each range has a name
abbrev pub HaveNames : List Span → Type 0
HaveNames xs = All (λ s. s.from < s.to) xs

names_from : (xs : List Span) (i : ℕ) (d : Span) (f : ℕ) → i < length xs → IsIn f (row (get_or xs i d)) → IsIn f (names_of xs)
names_from xs i d f h k =
    let In : List ℕ → Type 0 = λ ys. IsIn f ys in
    let its : List ℕ = row (get_or xs i d) in
    let behind : List ℕ = names_of (drop (i + 1) xs) in
    subst In (sym (names_at xs i d h)) (IsIn-append_right f (names_of (take i xs)) (its ++ behind) (IsIn-append_left f its behind k))

pub length-row : (a n : ℕ) → length (range_with_len a n) ≡ n
length-row a zero = refl
length-row a (suc n) = ap suc (length-row (a + 1) n)

-- there are no fewer names than ranges
pub fewer : (xs : List Span) → HaveNames xs → length xs ≤ length (names_of xs)
fewer [] a = omega arith
fewer (s ∷ xs) a =
    let first : s.from < s.to = All-head (λ s. s.from < s.to) s xs a in
    let rest : length xs ≤ length (names_of xs) = fewer xs (All-tail (λ s. s.from < s.to) s xs a) in
    let both : length (row s ++ names_of xs) ≡ length (row s) + length (names_of xs) = length-append (row s) (names_of xs) in
    let its : length (row s) ≡ s.to - s.from = length-row s.from (s.to - s.from) in
    omega arith

-- a range ends before a later one begins
ends_before : (xs : List Span) (d : Span) → HaveNames xs → IsAscendingSet (names_of xs) → (i j : ℕ) → i < j → j < length xs → (get_or xs i d).to ≤ (get_or xs j d).from
ends_before [] d a r i j h l = absurd (omega arith)
ends_before (s ∷ xs) d a r i zero h l = absurd (omega arith)
ends_before (s ∷ xs) d a r zero (suc j) h l =
    let t : Span = get_or xs j d in
    let within : j < length xs = omega arith in
    let first : s.from < s.to = All-head (λ s. s.from < s.to) s xs a in
    let some : t.from < t.to = All-get_or (λ s. s.from < s.to) xs j d within (All-tail (λ s. s.from < s.to) s xs a) in
    let last : IsIn (s.to - 1) (row s) = row-from_bounds s.from s.to (s.to - 1) (omega arith) (omega arith) in
    let there : IsIn t.from (names_of xs) = names_from xs j d t.from within (row-from_bounds t.from t.to t.from (omega arith) some) in
    let below : s.to - 1 < t.from = append_rises (row s) (names_of xs) (s.to - 1) t.from r last there in
    omega arith
ends_before (s ∷ xs) d a r (suc i) (suc j) h l = ends_before xs d (All-tail (λ s. s.from < s.to) s xs a) (rises_behind (row s) (names_of xs) r) i j (omega arith) (omega arith)

-- so their ends rise
pub ends_rise : (xs : List Span) → AreRanges xs → (i j : ℕ) (d : Span) → i ≤ j → j < length xs → (get_or xs i d).to ≤ (get_or xs j d).to
ends_rise xs a i j d h l =
    ⊎_elim
    (λ (e : ltb i j ≡ true).
    let some : (get_or xs j d).from < (get_or xs j d).to = All-get_or (λ s. s.from < s.to) xs j d l a.some in
    let before : (get_or xs i d).to ≤ (get_or xs j d).from = ends_before xs d a.some a.ascending i j (ltb-true i j e) l in
    omega arith)
    (λ (e : ltb i j ≡ false). let k : j ≤ i = ltb-false i j e in let same : i ≡ j = omega arith in rw same (omega arith))
    (cases_Bool (ltb i j))

-- a name that is not in a range
ends_below : (name : ℕ) (s : Span) → s.to ≤ name → in_span name s ≡ false
ends_below name s h =
    ⊎_elim (λ (e : in_span name s ≡ true). let l : name < s.to = ltb-true name s.to (and_parts (leb s.from name) (ltb name s.to) e).1 in absurd (omega arith)) (λ (e : in_span name s ≡ false). e)
    (cases_Bool (in_span name s))

begins_above : (name : ℕ) (s : Span) → name < s.from → in_span name s ≡ false
begins_above name s h =
    ⊎_elim (λ (e : in_span name s ≡ true). let l : s.from ≤ name = leb-true s.from name (and_parts (leb s.from name) (ltb name s.to) e).0 in absurd (omega arith)) (λ (e : in_span name s ≡ false). e)
    (cases_Bool (in_span name s))

-- the first range that does not end below the name is the only one that may have it
pub none_has : (xs : List Span) (i name : ℕ) (d : Span) → AreRanges xs → ((k : ℕ) → k < i → (get_or xs k d).to ≤ name)
    → (i < length xs → (name < (get_or xs i d).to) × (in_span name (get_or xs i d) ≡ false)) → list_any (in_span name) xs ≡ false
none_has xs i name d a below at = list_any_none (in_span name) xs (All-from_get_or (λ s. in_span name s ≡ false) xs d each)
  where
    each : (k : ℕ) → k < length xs → in_span name (get_or xs k d) ≡ false
    each k l =
        ⊎_elim
        (λ (e : ltb k i ≡ true). ends_below name (get_or xs k d) (below k (ltb-true k i e)))
        (λ (e : ltb k i ≡ false).
        let h : i ≤ k = ltb-false k i e in
        let here = at (omega arith) in
        ⊎_elim
        (λ (f : ltb i k ≡ true). let t : name < (get_or xs i d).to = here.0 in let b : (get_or xs i d).to ≤ (get_or xs k d).from = ends_before xs d a.some a.ascending i k (ltb-true i k f) l in
        begins_above name (get_or xs k d) (omega arith))
        (λ (f : ltb i k ≡ false). let g : k ≤ i = ltb-false i k f in let same : k ≡ i = omega arith in rw same here.1)
        (cases_Bool (ltb i k)))
        (cases_Bool (ltb k i))

-- ascending names without one of them
without_one : (name : ℕ) (before after : List ℕ) → IsAscendingSet (before ++ name ∷ after) → without_all (name ∷ []) (before ++ name ∷ after) ≡ before ++ after
without_one name before after a =
    let up : IsAscendingSet (name ∷ after) = rises_behind before (name ∷ after) a in
    let low : without_all (name ∷ []) before ≡ before =
    without_above (name ∷ []) before
    (λ y g i k. let b : y < name = append_rises before (name ∷ after) y name a i (inl refl) in ⊎_elim (λ (e : g ≡ name). let s : g ≡ name = e in omega arith) (λ (n : IsIn g []). absurd n) k) in
    let rest : without_all (name ∷ []) after ≡ without_all [] after = without_below name [] after (λ y i. ltb-true name y (ComesBefore-at ltb name y after up.0 i)) in
    let high : without_all (name ∷ []) (name ∷ after) ≡ after = without_itself name [] after ∙ rest ∙ without_above [] after (λ y g i k. absurd k) in
    without-append (name ∷ []) before (name ∷ after) ∙ ap (λ xs. xs ++ without_all (name ∷ []) (name ∷ after)) low ∙ ap (λ xs. before ++ xs) high

-- the names of the ranges without one, which is in the range at a place
abbrev pub cut_names : List Span → ℕ → Span → ℕ → List ℕ
cut_names xs i d name = names_of (take i xs) ++ (row (span (get_or xs i d).from name) ++ (row (span (name + 1) (get_or xs i d).to) ++ names_of (drop (i + 1) xs)))

cut_by : (xs ys : List Span) (i name : ℕ) (d : Span) → i < length xs → in_span name (get_or xs i d) ≡ true → AreRanges xs → HaveNames ys → names_of ys ≡ cut_names xs i d name → IsCut xs ys name
cut_by xs ys i name d h in_it a some e =
    let s : Span = get_or xs i d in
    let ends = and_parts (leb s.from name) (ltb name s.to) in_it in
    let l : s.from ≤ name = leb-true s.from name ends.0 in
    let r : name < s.to = ltb-true name s.to ends.1 in
    let front : List ℕ = names_of (take i xs) in
    let back : List ℕ = names_of (drop (i + 1) xs) in
    let low : List ℕ = row (span s.from name) in
    let high : List ℕ = row (span (name + 1) s.to) in
    let before : List ℕ = front ++ low in
    let after : List ℕ = high ++ back in
    let whole : names_of xs ≡ before ++ name ∷ after = names_at xs i d h ∙ ap (λ zs. front ++ (zs ++ back)) (row_split s.from s.to name l r) ∙ (simp append_assoc) in
    let left : names_of ys ≡ before ++ after = e ∙ (simp append_assoc) in
    let names : names_of ys ≡ without_all (name ∷ []) (names_of xs) = left ∙ sym (without_one name before after (subst IsAscendingSet whole a.ascending)) ∙ ap (without_all (name ∷ [])) (sym whole) in
    let long : length (names_of xs) ≡ length before + length (name ∷ after) = ap length whole ∙ length-append before (name ∷ after) in
    let short : length (names_of ys) ≡ length before + length after = ap length left ∙ length-append before after in
    record {
      names = names;
      count = omega arith;
      ranges = record { some = some; ascending = subst IsAscendingSet (sym names) (IsInOrder-filter ltb (λ f. not (list_any (λ g. eqb f g) (name ∷ []))) (names_of xs) a.ascending) };
    }

-- the range is gone
pub cut_out : (xs : List Span) (i name : ℕ) (d : Span) → i < length xs → in_span name (get_or xs i d) ≡ true → AreRanges xs → name ≤ (get_or xs i d).from → (get_or xs i d).to ≤ name + 1
    → IsCut xs (take i xs ++ drop (i + 1) xs) name
cut_out xs i name d h in_it a low high =
    let s : Span = get_or xs i d in
    let front : List ℕ = names_of (take i xs) in
    let back : List ℕ = names_of (drop (i + 1) xs) in
    let e : names_of (take i xs ++ drop (i + 1) xs) ≡ cut_names xs i d name =
    names_append (take i xs) (drop (i + 1) xs) ∙ ap (λ zs. front ++ (zs ++ back)) (sym (row_empty (name + 1) s.to high))
    ∙ ap (λ zs. front ++ (zs ++ (row (span (name + 1) s.to) ++ back))) (sym (row_empty s.from name low)) in
    cut_by xs (take i xs ++ drop (i + 1) xs) i name d h in_it a
    (All-append (λ s. s.from < s.to) (take i xs) (drop (i + 1) xs) (All-take (λ s. s.from < s.to) i xs a.some) (All-drop (λ s. s.from < s.to) (i + 1) xs a.some)) e

names_set : (xs : List Span) (i : ℕ) (y : Span) → i < length xs → names_of (set xs i y) ≡ names_of (take i xs) ++ (row y ++ names_of (drop (i + 1) xs))
names_set xs i y h =
    let n : suc i ≡ i + 1 = omega arith in
    ap names_of (set_split xs i y h) ∙ names_append (take i xs) (y ∷ drop (suc i) xs) ∙ ap (λ k. names_of (take i xs) ++ (row y ++ names_of (drop k xs))) n

-- the name was the last of the range
pub cut_last : (xs : List Span) (i name : ℕ) (d : Span) → i < length xs → in_span name (get_or xs i d) ≡ true → AreRanges xs → (get_or xs i d).from < name → (get_or xs i d).to ≤ name + 1
    → IsCut xs (set xs i (span (get_or xs i d).from name)) name
cut_last xs i name d h in_it a low high =
    let s : Span = get_or xs i d in
    let y : Span = span s.from name in
    let back : List ℕ = names_of (drop (i + 1) xs) in
    let e : names_of (set xs i y) ≡ cut_names xs i d name = names_set xs i y h ∙ ap (λ zs. names_of (take i xs) ++ (row y ++ (zs ++ back))) (sym (row_empty (name + 1) s.to high)) in
    cut_by xs (set xs i y) i name d h in_it a (All-set (λ s. s.from < s.to) xs i y low a.some) e

-- it was the first
pub cut_first : (xs : List Span) (i name : ℕ) (d : Span) → i < length xs → in_span name (get_or xs i d) ≡ true → AreRanges xs → name ≤ (get_or xs i d).from → name + 1 < (get_or xs i d).to
    → IsCut xs (set xs i (span (name + 1) (get_or xs i d).to)) name
cut_first xs i name d h in_it a low high =
    let s : Span = get_or xs i d in
    let y : Span = span (name + 1) s.to in
    let back : List ℕ = names_of (drop (i + 1) xs) in
    let e : names_of (set xs i y) ≡ cut_names xs i d name = names_set xs i y h ∙ ap (λ zs. names_of (take i xs) ++ (zs ++ (row y ++ back))) (sym (row_empty s.from name low)) in
    cut_by xs (set xs i y) i name d h in_it a (All-set (λ s. s.from < s.to) xs i y high a.some) e

-- it was between two others
pub cut_between : (xs : List Span) (i name : ℕ) (d : Span) → i < length xs → in_span name (get_or xs i d) ≡ true → AreRanges xs → (get_or xs i d).from < name → name + 1 < (get_or xs i d).to
    → IsCut xs (take i (set xs i (span (name + 1) (get_or xs i d).to)) ++ span (get_or xs i d).from name ∷ drop i (set xs i (span (name + 1) (get_or xs i d).to))) name
cut_between xs i name d h in_it a low high =
    let s : Span = get_or xs i d in
    let y : Span = span s.from name in
    let z : Span = span (name + 1) s.to in
    let P : Span → Type 0 = λ s. s.from < s.to in
    let zs : List Span = set xs i z in
    let all : HaveNames zs = All-set P xs i z high a.some in
    let front : names_of (take i zs) ≡ names_of (take i xs) = ap names_of (take-set xs i z) in
    let back : names_of (drop i zs) ≡ row z ++ names_of (drop (i + 1) xs) = ap names_of (drop-set xs i z h) in
    let e : names_of (take i zs ++ y ∷ drop i zs) ≡ cut_names xs i d name =
    names_append (take i zs) (y ∷ drop i zs) ∙ ap (λ ys. ys ++ (row y ++ names_of (drop i zs))) front ∙ ap (λ ys. names_of (take i xs) ++ (row y ++ ys)) back in
    cut_by xs (take i zs ++ y ∷ drop i zs) i name d h in_it a (All-append P (take i zs) (y ∷ drop i zs) (All-take P i zs all) (All-cons P y (drop i zs) low (All-drop P i zs all))) e

-- one name after the other
pub without_more : (gone : List ℕ) (name : ℕ) (names : List ℕ) → without_all (gone ++ name ∷ []) names ≡ without_all (name ∷ []) (without_all gone names)
without_more gone name [] = refl
without_more gone name (f ∷ names) =
    let more : list_any (λ g. eqb f g) (gone ++ name ∷ []) ≡ (list_any (λ g. eqb f g) gone || list_any (λ g. eqb f g) (name ∷ [])) = list_any-append (λ g. eqb f g) gone (name ∷ []) in
    ⊎_elim
    (λ (e : list_any (λ g. eqb f g) gone ≡ true). rw (more, e) (without_more gone name names))
    (λ (e : list_any (λ g. eqb f g) gone ≡ false).
    ⊎_elim
    (λ (k : list_any (λ g. eqb f g) (name ∷ []) ≡ true). rw (more, e, k) (without_more gone name names))
    (λ (k : list_any (λ g. eqb f g) (name ∷ []) ≡ false). rw (more, e, k) (ap (λ ys. f ∷ ys) (without_more gone name names)))
    (cases_Bool (list_any (λ g. eqb f g) (name ∷ []))))
    (cases_Bool (list_any (λ g. eqb f g) gone))

-- a name that is in no range
pub absent_stays : (xs : List Span) (name : ℕ) → list_any (in_span name) xs ≡ false → names_of xs ≡ without_all (name ∷ []) (names_of xs)
absent_stays xs name none =
    let names : List ℕ = names_of xs in
    let absent : list_any (λ g. eqb name g) names ≡ false = in_spans name xs ∙ none in
    let In : ℕ → Type 0 = λ z. IsIn z names in
    sym (filter-all (λ f. not (list_any (λ g. eqb f g) (name ∷ []))) names
    (λ y h. ap (λ b. not (b || false)) (ne_eqb y name (λ e. both_ways (list_any (λ g. eqb name g) names) absent (test-from_IsIn name names (subst In e h))))))

-- the range at the place
is_there : (xs : List Span) (i name : ℕ) (s : Span) → HasAt xs i s name → in_span name (get_or xs i s) ≡ true
is_there xs i name s h =
    let P : Span → Type 0 = λ t. in_span name t ≡ true in
    subst P (sym (h.there s)) (and_from (leb s.from name) (ltb name s.to) (le-leb s.from name h.from) (lt-ltb name s.to h.to))

-- the range at a place, where it has the name
pub at_place : (xs : List Span) (i name : ℕ) (d : Span) → i < length xs → in_span name (get_or xs i d) ≡ true → HasAt xs i (get_or xs i d) name
at_place xs i name d within it =
    let s : Span = get_or xs i d in
    let its = and_parts (leb s.from name) (ltb name s.to) it in
    record { within = within; there = λ e. get_or_any xs i e d within; from = leb-true s.from name its.0; to = ltb-true name s.to its.1 }

-- a range that was found
pub found_is : (xs : List Span) (name : ℕ) (r : Option (ℕ × Span)) → IfSome r (λ found. HasAt xs found.0 found.1 name) → (r ≡ None → list_any (in_span name) xs ≡ false)
    → is_some r ≡ list_any (in_span name) xs
found_is xs name None some none = sym (none refl)
found_is xs name (Some found) some none = sym (list_any_at (in_span name) xs found.0 found.1 some.within (is_there xs found.0 name found.1 some))

-- The cases of a cut, for the range at the place.

pub removed : (xs ys : List Span) (i name : ℕ) (s : Span) → HasAt xs i s name → AreRanges xs → name ≤ s.from → s.to ≤ name + 1 → ys ≡ take i xs ++ drop (suc i) xs → IsCut xs ys name
removed xs ys i name s h a low high is =
    let Is : List Span → Type 0 = λ zs. IsCut xs zs name in
    let P : Span → Type 0 = λ t. name ≤ t.from → t.to ≤ name + 1 → IsCut xs (take i xs ++ drop (i + 1) xs) name in
    let n : i + 1 ≡ suc i = omega arith in
    subst Is (ap (λ k. take i xs ++ drop k xs) n ∙ sym is) (subst P (h.there s) (cut_out xs i name s h.within (is_there xs i name s h) a) low high)

pub shortened : (xs : List Span) (i name : ℕ) (s : Span) → HasAt xs i s name → AreRanges xs → s.from < name → s.to ≤ name + 1 → IsCut xs (set xs i (span s.from name)) name
shortened xs i name s h a =
    let P : Span → Type 0 = λ t. t.from < name → t.to ≤ name + 1 → IsCut xs (set xs i (span t.from name)) name in
    subst P (h.there s) (cut_last xs i name s h.within (is_there xs i name s h) a)

pub begun_later : (xs : List Span) (i name : ℕ) (s : Span) → HasAt xs i s name → AreRanges xs → name ≤ s.from → name + 1 < s.to → IsCut xs (set xs i (span (name + 1) s.to)) name
begun_later xs i name s h a =
    let P : Span → Type 0 = λ t. name ≤ t.from → name + 1 < t.to → IsCut xs (set xs i (span (name + 1) t.to)) name in
    subst P (h.there s) (cut_first xs i name s h.within (is_there xs i name s h) a)

pub split_at : (xs : List Span) (i name : ℕ) (s : Span) → HasAt xs i s name → AreRanges xs → s.from < name → name + 1 < s.to
    → IsCut xs (take i (set xs i (span (name + 1) s.to)) ++ span s.from name ∷ drop i (set xs i (span (name + 1) s.to))) name
split_at xs i name s h a =
    let P : Span → Type 0 = λ t. t.from < name → name + 1 < t.to → IsCut xs (take i (set xs i (span (name + 1) t.to)) ++ span t.from name ∷ drop i (set xs i (span (name + 1) t.to))) name in
    subst P (h.there s) (cut_between xs i name s h.within (is_there xs i name s h) a)

-- a range that is split has two names more
pub two_more : (xs : List Span) (i name : ℕ) (s : Span) → HasAt xs i s name → AreRanges xs → s.from < name → name + 1 < s.to → length xs + 2 ≤ length (names_of xs)
two_more xs i name s h a low high =
    let zs : List Span = set xs i (span (name + 1) s.to) in
    let ys : List Span = take i zs ++ span s.from name ∷ drop i zs in
    let k : IsCut xs ys name = split_at xs i name s h a low high in
    let few : length ys ≤ length (names_of ys) = fewer ys k.ranges.some in
    let long : length ys ≡ length (take i zs) + length (span s.from name ∷ drop i zs) = length-append (take i zs) (span s.from name ∷ drop i zs) in
    let same : length zs ≡ length (take i zs) + length (drop i zs) = ap length (sym (take-append-drop i zs)) ∙ length-append (take i zs) (drop i zs) in
    let kept : length zs ≡ length xs = length-set xs i (span (name + 1) s.to) in
    let counted : length (names_of ys) + 1 ≡ length (names_of xs) = k.count in
    omega arith

-- the names with those of an added range
pub joined_is : (spans : List Span) (first count : ℕ) → AreRanges spans → 0 < count → names_of (joined spans (span first (first + count))) ≡ names_of spans ++ range_with_len first count
joined_is spans first count are some =
    let e : (first + count) - first ≡ count = omega arith in
    joined_names spans (span first (first + count)) are.some (omega arith) ∙ ap (λ n. names_of spans ++ range_with_len first n) e

-- an added range
pub added : (spans : List Span) (first count held len room held2 len2 room2 : ℕ) → AreKept spans held len room → ((f : ℕ) → IsIn f (names_of spans) → f < first) → 0 < count → held2 ≡ held + count
    → held2 + len + 1 ≤ room2 + room2 → len2 ≤ len + 1 → AreKept (joined spans (span first (first + count))) held2 len2 room2
added spans first count held len room held2 len2 room2 k above some is fits few =
    let new : Span = span first (first + count) in
    let its : names_of (joined spans new) ≡ names_of spans ++ range_with_len first count = joined_is spans first count k.ranges some in
    let long : length (names_of (joined spans new)) ≡ length (names_of spans) + length (range_with_len first count) = ap length its ∙ length-append (names_of spans) (range_with_len first count) in
    let row_ : length (range_with_len first count) ≡ count = length-row first count in
    let names : length (names_of spans) ≡ held = k.names in
    record {
      ranges = record {
        some = joined_some spans new k.ranges.some (omega arith);
        ascending = subst IsAscendingSet (added_is spans first count ∙ sym its) (added_rises spans first count k.ranges.ascending above);
      };
      names = omega arith;
      fits = omega arith;
    }
