-- How many names ranges have that are read one after the other, and why other ranges are refused.
use Rattle.ckpt_terms.proofs.Imports.{◌≡◌, ℕ, zero, suc, ◌+◌, ◌-◌, ◌<◌, ◌≤◌, ltb, List, [], ◌∷◌, ◌++◌, take, drop, get_or, length, refl, sym, ap, subst, ◌∙◌, ⊎_elim, arith, length-append}
use Rattle.ckpt_terms.proofs.Imports.{lt-ltb, take_all, take_more, All-get_or, All-append, All-cons, All-nil, IsAscendingSet, IsIn, IsIn-append_cases, IsIn-append_left, IsIn-append_right}
use Rattle.ckpt_terms.proofs.Imports.{IsInOrder-append, Span, row, names_of, AreRanges, AreRangesBelow}
use Rattle.ckpt_terms.proofs.SpanLemmas.{names_at, names_push, row-bounds, row-from_bounds, append_rises}
use Rattle.ckpt_terms.proofs.{Stepping.row_ascends, RangeLemmas.length-row}

-- ranges with this many names, of which the greatest is the one before this end
pub record AreCounted (spans : List Span) (end held : ℕ) : Type 0 where
  pub ranges : AreRanges spans
  pub names : length (names_of spans) ≡ held
  pub most : held ≤ end
  pub below : (f : ℕ) → IsIn f (names_of spans) → f < end
  pub greatest : 0 < end → IsIn (end - 1) (names_of spans)

abbrev IsSome_range : Span → Type 0
IsSome_range s = s.from < s.to

pub none_counted : AreCounted [] 0 0
none_counted = record {
  ranges = record { some = All-nil IsSome_range; ascending = tt };
  names = refl;
  most = omega arith;
  below = λ f h. absurd h;
  greatest = λ h. absurd (omega arith);
}

-- one range more
one_counted : (spans : List Span) (end held : ℕ) (s : Span) → AreCounted spans end held → end ≤ s.from → s.from < s.to → AreCounted (spans ++ s ∷ []) s.to (held + (s.to - s.from))
one_counted spans end held s c from some =
    let its : names_of (spans ++ s ∷ []) ≡ names_of spans ++ row s = names_push spans s in
    let long : length (names_of (spans ++ s ∷ [])) ≡ length (names_of spans) + length (row s) = ap length its ∙ length-append (names_of spans) (row s) in
    let more : length (row s) ≡ s.to - s.from = length-row s.from (s.to - s.from) in
    let before : length (names_of spans) ≡ held = c.names in
    let most : held ≤ end = c.most in
    let Has : ℕ → List ℕ → Type 0 = λ f xs. IsIn f xs in
    record {
      ranges = record {
        some = All-append IsSome_range spans (s ∷ []) c.ranges.some (All-cons IsSome_range s [] some (All-nil IsSome_range));
        ascending = subst IsAscendingSet (sym its)
            (IsInOrder-append ltb (names_of spans) (row s) c.ranges.ascending (row_ascends s.from (s.to - s.from))
            (λ x y h k. let b : x < end = c.below x h in let d : s.from ≤ y = (row-bounds s.from s.to y k).0 in lt-ltb x y (omega arith)));
      };
      names = omega arith;
      most = omega arith;
      below = λ f h. ⊎_elim (λ (k : IsIn f (names_of spans)). let b : f < end = c.below f k in omega arith) (λ (k : IsIn f (row s)). (row-bounds s.from s.to f k).1)
          (IsIn-append_cases f (names_of spans) (row s) (subst (Has f) its h));
      greatest = λ _. subst (Has (s.to - 1)) (sym its) (IsIn-append_right (s.to - 1) (names_of spans) (row s) (row-from_bounds s.from s.to (s.to - 1) (omega arith) (omega arith)));
    }

pub more_counted : (xs : List Span) (i end held : ℕ) (d : Span) → i < length xs → AreCounted (take i xs) end held → end ≤ (get_or xs i d).from → (get_or xs i d).from < (get_or xs i d).to
    → AreCounted (take (i + 1) xs) (get_or xs i d).to (held + ((get_or xs i d).to - (get_or xs i d).from))
more_counted xs i end held d within c from some =
    let s : Span = get_or xs i d in
    let Is : List Span → Type 0 = λ ys. AreCounted ys s.to (held + (s.to - s.from)) in
    subst Is (sym (take_more xs i d within)) (one_counted (take i xs) end held s c from some)

-- all of them
pub all_counted : (xs : List Span) (i last held end : ℕ) → length xs ≤ i → AreCounted (take i xs) last held → last ≤ end → AreRangesBelow xs end held
all_counted xs i last held end all c h =
    let Is : List Span → Type 0 = λ ys. AreCounted ys last held in
    let d : AreCounted xs last held = subst Is (take_all i xs all) c in
    record { ranges = d.ranges; names = d.names; below = λ f k. let b : f < last = d.below f k in omega arith }

-- a range of ascending ones is not empty
pub is_some : (xs : List Span) (i : ℕ) (d : Span) → i < length xs → AreRanges xs → (get_or xs i d).from < (get_or xs i d).to
is_some xs i d within a = All-get_or IsSome_range xs i d within a.some

-- and begins behind those before it
pub is_behind : (xs : List Span) (i end held : ℕ) (d : Span) → i < length xs → AreCounted (take i xs) end held → AreRanges xs → end ≤ (get_or xs i d).from
is_behind xs i end held d within c a =
    let s : Span = get_or xs i d in
    let front : List ℕ = names_of (take i xs) in
    let back : List ℕ = names_of (drop (i + 1) xs) in
    let some : s.from < s.to = is_some xs i d within a in
    let whole : names_of xs ≡ front ++ (row s ++ back) = names_at xs i d within in
    let there : IsIn s.from (row s ++ back) = IsIn-append_left s.from (row s) back (row-from_bounds s.from s.to s.from (omega arith) some) in
    let after : 0 < end → end - 1 < s.from = λ h. append_rises front (row s ++ back) (end - 1) s.from (subst IsAscendingSet whole a.ascending) (c.greatest h) there in
    by_end end s.from after
  where
    by_end : (n k : ℕ) → (0 < n → n - 1 < k) → n ≤ k
    by_end zero k h = omega arith
    by_end (suc n) k h = let l : suc n - 1 < k = h (omega arith) in omega arith

-- the last ends where no name is any more
pub ends_within : (xs : List Span) (i last held end : ℕ) → length xs ≤ i → AreCounted (take i xs) last held → ((f : ℕ) → IsIn f (names_of xs) → f < end) → end < last → ⊥
ends_within xs i last held end all c below h =
    let Is : List Span → Type 0 = λ ys. AreCounted ys last held in
    let d : AreCounted xs last held = subst Is (take_all i xs all) c in
    let l : last - 1 < end = below (last - 1) (d.greatest (omega arith)) in
    omega arith

-- no names
pub no_names : (names : List ℕ) (held : ℕ) → length names ≡ held → held ≡ 0 → names ≡ []
no_names [] held is e = refl
no_names (f ∷ names) held is e = absurd (omega arith)
