-- Sums over views, functions that change at one number, and prefixes of a history.
use Rattle.std.proofs.lemmas.Grind.{common_steps}
use Rattle.ckpt_locked.proofs.Names.{All, All-cons, All-head, All-nil, All-tail, Entry, List, SeatsBelow, StartsWith, View, [], ap, append-nil, append_assoc, arith, at_set, calls_by, cond, dite}
use Rattle.ckpt_locked.proofs.Names.{eq-eqb, eqb, get_elem?, has_number, in_line, length, ne_eqb, refl, set, some, some-injective, some-ne-none, subst, suc, sym, total, zero, ℕ, ℕ_discrete, ⊎_elim}
use Rattle.ckpt_locked.proofs.Names.{◌++◌, ◌+◌, ◌<◌, ◌∙◌, ◌∷◌, ◌≡◌, ◌≢◌, ◌≤◌}

module _ {A : Type 0} where
  pub total-append : (g : A → ℕ) (l m : List A) → total g (l ++ m) ≡ total g l + total g m
  total-append g [] m = omega arith
  total-append g (x ∷ xs) m = omega (arith, total-append g xs m)

  pub total-set : (g : A → ℕ) (l : List A) (j : ℕ) (v w : A) → get_elem? l j ≡ some v → total g (set l j w) + g v ≡ total g l + g w
  total-set g [] j v w e = absurd (some-ne-none v (sym e))
  total-set g (x ∷ xs) zero v w e = omega (arith, ap g (some-injective x v e))
  total-set g (x ∷ xs) (suc j) v w e = omega (arith, total-set g xs j v w e)

  pub set_at : (l : List A) (i : ℕ) (v w : A) → get_elem? l i ≡ some v → get_elem? (set l i w) i ≡ some w
  set_at [] i v w e = absurd (some-ne-none v (sym e))
  set_at (x ∷ xs) zero v w e = refl
  set_at (x ∷ xs) (suc i) v w e = set_at xs i v w e

  -- a fact about each other place, and about the changed one, holds everywhere
  pub all_set : (P : ℕ → A → Type 0) (l : List A) (i : ℕ) (w : A) → ((j : ℕ) (u : A) → j ≢ i → get_elem? l j ≡ some u → P j u) → P i w → (j : ℕ) (u : A)
      → get_elem? (set l i w) j ≡ some u → P j u
  all_set P l i w others mine j u e =
      ⊎_elim
      (λ (x : (j ≡ i) × (w ≡ u)). subst (λ (y : ℕ × A). P y.0 y.1) (λ k. (sym x.0 k, x.1 k)) mine)
      (λ (x : (j ≢ i) × (get_elem? l j ≡ some u)). others j u x.0 x.1)
      (at_set l i j w u e)

pub in_line-le : (views : List View) → total in_line views ≤ total has_number views
in_line-le [] = omega arith
in_line-le (v ∷ vs) = grind (arith, common_steps, in_line-le vs)

-- f with the value p at k
abbrev pub put : (ℕ → ℕ) → ℕ → ℕ → ℕ → ℕ
put f k p x = cond (eqb x k) p (f x)

pub put_here : (f : ℕ → ℕ) (k p x : ℕ) → x ≡ k → put f k p x ≡ p
put_here f k p x e = ap (λ b. cond b p (f x)) (eq-eqb x k e)

pub put_else : (f : ℕ → ℕ) (k p x : ℕ) → x ≢ k → put f k p x ≡ f x
put_else f k p x n = ap (λ b. cond b p (f x)) (ne_eqb x k n)

-- f has the value p already, or is changed to p
pub put_to : (f : ℕ → ℕ) (k p x : ℕ) → f x ≡ p → put f k p x ≡ p
put_to f k p x e = dite (ℕ_discrete x k) (λ same. put_here f k p x same) (λ ne. put_else f k p x ne ∙ e)

pub starts_all : (log : List Entry) → StartsWith log log
starts_all log = ([], sym (append-nil log))

pub starts_none : (log : List Entry) → StartsWith log []
starts_none log = (log, refl)

pub starts_more : (log part : List Entry) (e : Entry) → StartsWith log part → StartsWith (log ++ e ∷ []) part
starts_more log part e s = (s.0 ++ e ∷ [], ap (λ l. l ++ e ∷ []) s.1 ∙ append_assoc part s.0 (e ∷ []))

pub calls_by-same : (k : ℕ) (es : List Entry) (e : Entry) → e.seat ≡ k → calls_by k (es ++ e ∷ []) ≡ calls_by k es ++ e.call ∷ []
calls_by-same k [] e is = grind (arith, common_steps)
calls_by-same k (x ∷ xs) e is = grind (arith, common_steps, calls_by-same k xs e is)

pub calls_by-other : (k : ℕ) (es : List Entry) (e : Entry) → e.seat ≢ k → calls_by k (es ++ e ∷ []) ≡ calls_by k es
calls_by-other k [] e ne = ap (λ b. cond b (e.call ∷ []) []) (ne_eqb e.seat k ne)
calls_by-other k (x ∷ xs) e ne = ap (λ l. cond (eqb x.seat k) (x.call ∷ l) l) (calls_by-other k xs e ne)

pub calls_by-none : (k : ℕ) (es : List Entry) → SeatsBelow k es → calls_by k es ≡ []
calls_by-none k [] below = refl
calls_by-none k (x ∷ xs) below = ap (λ b. cond b (x.call ∷ calls_by k xs) (calls_by k xs)) (ne_eqb x.seat k (omega (arith, below.0))) ∙ calls_by-none k xs below.1

pub length-calls_by : (k : ℕ) (es : List Entry) → length (calls_by k es) ≤ length es
length-calls_by k [] = omega arith
length-calls_by k (x ∷ xs) = grind (arith, common_steps, length-calls_by k xs)

pub below-push : (n : ℕ) (es : List Entry) (e : Entry) → SeatsBelow n es → e.seat < n → SeatsBelow n (es ++ e ∷ [])
below-push n [] e all one = (one, tt)
below-push n (x ∷ xs) e all one = (all.0, below-push n xs e all.1 one)

pub below-le : (n m : ℕ) (es : List Entry) → n ≤ m → SeatsBelow n es → SeatsBelow m es
below-le n m [] le all = tt
below-le n m (x ∷ xs) le all = (omega (arith, all.0), below-le n m xs le all.1)

pub all_front : {A : Type 0} (P : A → Type 0) (xs ys : List A) → All P (xs ++ ys) → All P xs
all_front P [] ys all = All-nil P
all_front P (x ∷ xs) ys all = All-cons P x xs (All-head P x (xs ++ ys) all) (all_front P xs ys (All-tail P x (xs ++ ys) all))

pub all_last : {A : Type 0} (P : A → Type 0) (xs : List A) (y : A) → All P (xs ++ y ∷ []) → P y
all_last P [] y all = All-head P y [] all
all_last P (x ∷ xs) y all = all_last P xs y (All-tail P x (xs ++ y ∷ []) all)
