-- What comes before a barrier, and where that ends.
use Rattle.ckpt_other_cuts.proofs.Names.{common_steps, arith, ◌≡◌, ℕ, Bool, true, false, List, ◌∷◌, ◌++◌, ◌∙◌, refl, sym, ap, if◌then◌else◌, [], ◌==◌, both_ways, append-nil, append_assoc}
use Rattle.ckpt_other_cuts.proofs.Names.{Item, Element, Barrier, End, before, elements, Runs, elements-append, IsPrefix, EndsWithout, has_stop}

-- without a stop what follows decides
runs_by : (n : ℕ) (b s : Bool) (c rest : List Item) → (if b then true else s) ≡ false → (s ≡ false → before n (c ++ rest) ≡ elements c ++ before n rest) → (if b then [] else before n (c ++ rest)) ≡ elements c ++ before n rest
runs_by n true s c rest e on = absurd (both_ways true e refl)
runs_by n false s c rest e on = on e

pub runs : (n : ℕ) (c : List Item) → has_stop n c ≡ false → Runs n c
runs n [] e rest = refl
runs n (Element x ∷ c) e rest = ap (λ l. x ∷ l) (runs n c e rest)
runs n (Barrier m ∷ c) e rest = runs_by n (m == n) (has_stop n c) c rest e (λ k. runs n c k rest)
runs n (End ∷ c) e rest = absurd (both_ways true e refl)

-- behind a stop nothing counts
closed_by : (n : ℕ) (b s : Bool) (c rest : List Item) → (if b then true else s) ≡ true → (s ≡ true → before n (c ++ rest) ≡ before n c) → (if b then [] else before n (c ++ rest)) ≡ (if b then [] else before n c)
closed_by n true s c rest e on = refl
closed_by n false s c rest e on = on e

pub closed : (n : ℕ) (c rest : List Item) → has_stop n c ≡ true → before n (c ++ rest) ≡ before n c
closed n [] rest e = absurd (both_ways true (sym e) refl)
closed n (Element x ∷ c) rest e = ap (λ l. x ∷ l) (closed n c rest e)
closed n (Barrier m ∷ c) rest e = closed_by n (m == n) (has_stop n c) c rest e (λ k. closed n c rest k)
closed n (End ∷ c) rest e = refl

-- what comes before a barrier is the beginning of all
prefix_by : (b : Bool) (xs ys : List ℕ) → IsPrefix xs ys → IsPrefix (if b then [] else xs) ys
prefix_by true xs ys h = (ys, refl)
prefix_by false xs ys h = h

pub before_begins : (n : ℕ) (c : List Item) → IsPrefix (before n c) (elements c)
before_begins n [] = ([], refl)
before_begins n (Element x ∷ c) = let h = before_begins n c in (h.0, ap (λ l. x ∷ l) h.1)
before_begins n (Barrier m ∷ c) = prefix_by (m == n) (before n c) (elements c) (before_begins n c)
before_begins n (End ∷ c) = (elements c, refl)

-- after the end nothing counts, and all before it
elements_end : (c : List Item) → elements (c ++ End ∷ []) ≡ elements c
elements_end c = elements-append c (End ∷ []) ∙ append-nil (elements c)

pub ends : (n : ℕ) (c rest : List Item) → EndsWithout n c → before n (c ++ rest) ≡ elements c
ends n c rest k = grind (arith, common_steps, append-nil, append_assoc, elements_end, runs)
