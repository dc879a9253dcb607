-- Ranges as few as can be.
use Rattle.ckpt_terms.proofs.Imports.{◌≡◌, ℕ, zero, suc, ◌+◌, ◌-◌, ◌<◌, ◌≤◌, false, eqb, List, [], ◌∷◌, ◌++◌, take, drop, get_or, length, refl, sym, ap, subst, ◌∙◌, arith, All, range_with_len}
use Rattle.ckpt_terms.proofs.Imports.{cond-true, cond-false, cond_both, eqb-true, eqb-false, eq-eqb, ne_eqb, append-nil, append_assoc, take_all, take_more, All-get_or, All-head, All-tail}
use Rattle.ckpt_terms.proofs.Imports.{All-cons, All-nil, IsAscendingSet, IsIn, IsIn-append_left, IsIn-append_right, Span, AreApart, AreRanges, EndsBefore, joined, names_of, ranges_of, row}
use Rattle.ckpt_terms.proofs.Imports.{with_first}
use Rattle.ckpt_terms.proofs.SpanLemmas.{append_rises, names_at, names_push, range_split, row-from_bounds, span}

abbrev IsSome_range : Span → Type 0
IsSome_range s = s.from < s.to

abbrev HaveNames : List Span → Type 0
HaveNames xs = All IsSome_range xs

-- a range behind others, at the last of them
pub joined_last : (xs : List Span) (t s : Span) → joined (xs ++ t ∷ []) s ≡ xs ++ joined (t ∷ []) s
joined_last [] t s = refl
joined_last (x ∷ []) t s = refl
joined_last (x ∷ y ∷ ys) t s = ap (λ (zs : List Span). x ∷ zs) (joined_last (y ∷ ys) t s)

-- two that touch have the names of both
rows_touch : (t s : Span) → t.from < t.to → s.from < s.to → t.to ≡ s.from → row (span t.from s.to) ≡ row t ++ row s
rows_touch t s some some' touch =
    let n : ℕ = t.to - t.from in
    let k : ℕ = s.to - s.from in
    let whole : s.to - t.from ≡ n + k = omega arith in
    let at : t.from + n ≡ s.from = omega arith in
    ap (range_with_len t.from) whole ∙ range_split t.from n k ∙ ap (λ b. range_with_len t.from n ++ range_with_len b k) at

pub joined_names : (xs : List Span) (s : Span) → HaveNames xs → s.from < s.to → names_of (joined xs s) ≡ names_of xs ++ row s
joined_names [] s a some = append-nil (row s)
joined_names (t ∷ []) s a some =
    let Its : List Span → Type 0 = λ ys. names_of ys ≡ (row t ++ []) ++ row s in
    cond_both (eqb t.to s.from) (span t.from s.to ∷ []) (t ∷ s ∷ []) Its
    (λ e. append-nil (row (span t.from s.to)) ∙ rows_touch t s (All-head IsSome_range t [] a) some (eqb-true t.to s.from e) ∙ ap (λ ys. ys ++ row s) (sym (append-nil (row t))))
    (λ e. ap (λ ys. row t ++ ys) (append-nil (row s)) ∙ ap (λ ys. ys ++ row s) (sym (append-nil (row t))))
joined_names (t ∷ u ∷ xs) s a some =
    ap (λ ys. row t ++ ys) (joined_names (u ∷ xs) s (All-tail IsSome_range t (u ∷ xs) a) some) ∙ sym (append_assoc (row t) (names_of (u ∷ xs)) (row s))

pub joined_some : (xs : List Span) (s : Span) → HaveNames xs → s.from < s.to → HaveNames (joined xs s)
joined_some [] s a some = All-cons IsSome_range s [] some (All-nil IsSome_range)
joined_some (t ∷ []) s a some =
    let first : t.from < t.to = All-head IsSome_range t [] a in
    cond_both (eqb t.to s.from) (span t.from s.to ∷ []) (t ∷ s ∷ []) HaveNames
    (λ e. let touch : t.to ≡ s.from = eqb-true t.to s.from e in All-cons IsSome_range (span t.from s.to) [] (omega arith) (All-nil IsSome_range))
    (λ e. All-cons IsSome_range t (s ∷ []) first (All-cons IsSome_range s [] some (All-nil IsSome_range)))
joined_some (t ∷ u ∷ xs) s a some =
    All-cons IsSome_range t (joined (u ∷ xs) s) (All-head IsSome_range t (u ∷ xs) a) (joined_some (u ∷ xs) s (All-tail IsSome_range t (u ∷ xs) a) some)

-- each of them ends at this place at the latest
abbrev pub EndBy : ℕ → List Span → Type 0
EndBy end [] = Unit {0}
EndBy end (t ∷ xs) = (t.to ≤ end) × EndBy end xs

pub ends_by : (xs : List Span) (end : ℕ) → HaveNames xs → ((f : ℕ) → IsIn f (names_of xs) → f < end) → EndBy end xs
ends_by [] end a below = tt
ends_by (t ∷ xs) end a below =
    let some : t.from < t.to = All-head IsSome_range t xs a in
    let last : t.to - 1 < end = below (t.to - 1) (IsIn-append_left (t.to - 1) (row t) (names_of xs) (row-from_bounds t.from t.to (t.to - 1) (omega arith) (omega arith))) in
    (omega arith, ends_by xs end (All-tail IsSome_range t xs a) (λ f h. below f (IsIn-append_right f (row t) (names_of xs) h)))

-- what is before the others stays before them
before_joined : (t u : Span) (xs : List Span) (s : Span) → t.to < u.from → EndsBefore t (joined (u ∷ xs) s)
before_joined t u [] s h = cond_both (eqb u.to s.from) (span u.from s.to ∷ []) (u ∷ s ∷ []) (EndsBefore t) (λ _. h) (λ _. h)
before_joined t u (v ∷ xs) s h = h

pub joined_apart : (xs : List Span) (s : Span) → AreApart xs → EndBy s.from xs → AreApart (joined xs s)
joined_apart [] s a by = (tt, tt)
joined_apart (t ∷ []) s a by =
    let end : t.to ≤ s.from = by.0 in
    cond_both (eqb t.to s.from) (span t.from s.to ∷ []) (t ∷ s ∷ []) AreApart
    (λ _. (tt, tt))
    (λ e. let off : t.to ≡ s.from → ⊥ = eqb-false t.to s.from e in let before : t.to < s.from = omega (arith, off) in (before, (tt, tt)))
joined_apart (t ∷ u ∷ xs) s a by = (before_joined t u xs s a.0, joined_apart (u ∷ xs) s a.1 by.1)

pub joined_length : (xs : List Span) (s : Span) → length (joined xs s) ≤ length xs + 1
joined_length [] s = omega arith
joined_length (t ∷ []) s = cond_both (eqb t.to s.from) (span t.from s.to ∷ []) (t ∷ s ∷ []) (λ (ys : List Span). length ys ≤ 2) (λ _. omega arith) (λ _. omega arith)
joined_length (t ∷ u ∷ xs) s = let h : length (joined (u ∷ xs) s) ≤ length (u ∷ xs) + 1 = joined_length (u ∷ xs) s in omega arith

-- a name before ranges that it does not touch, and before one that it does
first_off : (name : ℕ) (xs : List Span) (end : ℕ) → end ≡ name + 1 → EndsBefore (span name end) xs → with_first name xs ≡ span name end ∷ xs
first_off name [] end is before = ap (λ (e : ℕ). span name e ∷ []) (sym is)
first_off name (t ∷ xs) end is before =
    let h : end < t.from = before in
    let off : eqb t.from (name + 1) ≡ false = ne_eqb t.from (name + 1) (λ e. absurd (omega arith)) in
    cond-false (eqb t.from (name + 1)) _ _ off ∙ ap (λ (e : ℕ). span name e ∷ t ∷ xs) (sym is)

first_on : (name from to : ℕ) (xs : List Span) → from ≡ name + 1 → with_first name (span from to ∷ xs) ≡ span name to ∷ xs
first_on name from to xs is = cond-true (eqb from (name + 1)) _ _ (eq-eqb from (name + 1) is)

-- the names of a range before ranges that it does not touch
row_first : (from n : ℕ) (names : List ℕ) (xs : List Span) → ranges_of names ≡ xs → EndsBefore (span from (from + suc n)) xs
    → ranges_of (range_with_len from (suc n) ++ names) ≡ span from (from + suc n) ∷ xs
unfolding ranges_of
row_first from zero names xs is before = ap (with_first from) is ∙ first_off from xs (from + 1) refl before
row_first from (suc n) names xs is before =
    let same : (from + 1) + suc n ≡ from + suc (suc n) = omega arith in
    let Before : ℕ → Type 0 = λ e. EndsBefore (span (from + 1) e) xs in
    let rest : ranges_of (range_with_len (from + 1) (suc n) ++ names) ≡ span (from + 1) ((from + 1) + suc n) ∷ xs =
    row_first (from + 1) n names xs is (subst Before (sym same) (later from (from + suc (suc n)) xs before)) in
    ap (with_first from) rest ∙ first_on from (from + 1) ((from + 1) + suc n) xs refl ∙ ap (λ (e : ℕ). span from e ∷ xs) same
  where
    later : (a e : ℕ) (ys : List Span) → EndsBefore (span a e) ys → EndsBefore (span (a + 1) e) ys
    later a e [] h = tt
    later a e (t ∷ ys) h = h

-- ranges that do not touch are those of their names
pub fewest : (xs : List Span) → HaveNames xs → AreApart xs → ranges_of (names_of xs) ≡ xs
unfolding ranges_of
fewest [] a apart = refl
fewest (s ∷ xs) a apart =
    let some : s.from < s.to = All-head IsSome_range s xs a in
    let n : ℕ = s.to - (s.from + 1) in
    let long : s.to - s.from ≡ suc n = omega arith in
    let end : s.from + suc n ≡ s.to = omega arith in
    let Before : ℕ → Type 0 = λ e. EndsBefore (span s.from e) xs in
    ap (λ (k : ℕ). ranges_of (range_with_len s.from k ++ names_of xs)) long
    ∙ row_first s.from n (names_of xs) xs (fewest xs (All-tail IsSome_range s xs a) apart.1) (subst Before (sym end) (before s xs apart.0))
    ∙ ap (λ (e : ℕ). span s.from e ∷ xs) end
  where
    before : (t : Span) (ys : List Span) → EndsBefore t ys → EndsBefore (span t.from t.to) ys
    before t [] h = tt
    before t (u ∷ ys) h = h

-- what a push leaves, where the last range was taken out before: it touches the new one, or does not, or there is none
pub join_on : (old xs : List Span) (t s : Span) → old ≡ xs ++ t ∷ [] → t.to ≡ s.from → xs ++ span t.from s.to ∷ [] ≡ joined old s
join_on old xs t s is touch =
    ap (λ (ys : List Span). xs ++ ys) (sym (cond-true (eqb t.to s.from) (span t.from s.to ∷ []) (t ∷ s ∷ []) (eq-eqb t.to s.from touch)))
    ∙ sym (joined_last xs t s) ∙ ap (λ (ys : List Span). joined ys s) (sym is)

pub join_off : (old xs : List Span) (t s : Span) → old ≡ xs ++ t ∷ [] → (t.to ≡ s.from → ⊥) → (xs ++ t ∷ []) ++ s ∷ [] ≡ joined old s
join_off old xs t s is off =
    append_assoc xs (t ∷ []) (s ∷ [])
    ∙ ap (λ (ys : List Span). xs ++ ys) (sym (cond-false (eqb t.to s.from) (span t.from s.to ∷ []) (t ∷ s ∷ []) (ne_eqb t.to s.from off)))
    ∙ sym (joined_last xs t s) ∙ ap (λ (ys : List Span). joined ys s) (sym is)

pub join_none : (old xs : List Span) (s : Span) → old ≡ xs ++ [] → length xs ≡ 0 → xs ++ s ∷ [] ≡ joined old s
join_none old [] s is none = ap (λ (ys : List Span). joined ys s) (sym is)
join_none old (x ∷ xs) s is none = absurd (omega arith)

-- these are the ranges that were read, as few as can be
pub record AreFewest (spans read : List Span) : Type 0 where
  pub names : names_of spans ≡ names_of read
  pub some : HaveNames spans
  pub apart : AreApart spans

pub none_read : AreFewest [] []
none_read = record { names = refl; some = All-nil IsSome_range; apart = tt }

pub one_more : (xs ranges : List Span) (i : ℕ) (d : Span) → i < length ranges → AreRanges ranges → AreFewest xs (take i ranges) → AreFewest (joined xs (get_or ranges i d)) (take (i + 1) ranges)
one_more xs ranges i d within are few =
    let s : Span = get_or ranges i d in
    let some : s.from < s.to = All-get_or IsSome_range ranges i d within are.some in
    let read : names_of (take (i + 1) ranges) ≡ names_of (take i ranges) ++ row s = ap names_of (take_more ranges i d within) ∙ names_push (take i ranges) s in
    let behind : List ℕ = row s ++ names_of (drop (i + 1) ranges) in
    let first : IsIn s.from behind = IsIn-append_left s.from (row s) (names_of (drop (i + 1) ranges)) (row-from_bounds s.from s.to s.from (omega arith) some) in
    let rises : IsAscendingSet (names_of (take i ranges) ++ behind) = subst IsAscendingSet (names_at ranges i d within) are.ascending in
    let below : (f : ℕ) → IsIn f (names_of xs) → f < s.from = λ f h.
    let In : List ℕ → Type 0 = λ ys. IsIn f ys in
    append_rises (names_of (take i ranges)) behind f s.from rises (subst In few.names h) first in
    record {
      names = joined_names xs s few.some some ∙ ap (λ ys. ys ++ row s) few.names ∙ sym read;
      some = joined_some xs s few.some some;
      apart = joined_apart xs s few.apart (ends_by xs s.from few.some below);
    }

pub all_read : (xs ranges : List Span) (i : ℕ) → length ranges ≤ i → AreFewest xs (take i ranges) → AreFewest xs ranges
all_read xs ranges i all few = let Of : List Span → Type 0 = λ ys. AreFewest xs ys in subst Of (take_all i ranges all) few

pub fewest_ranges : (xs ranges : List Span) → AreFewest xs ranges → AreRanges ranges → AreRanges xs
fewest_ranges xs ranges few are = record { some = few.some; ascending = subst IsAscendingSet (sym few.names) are.ascending }

pub fewest_of : (xs ranges : List Span) → AreFewest xs ranges → xs ≡ ranges_of (names_of ranges)
fewest_of xs ranges few = sym (fewest xs few.some few.apart) ∙ ap ranges_of few.names
