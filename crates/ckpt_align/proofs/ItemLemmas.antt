-- What comes before a barrier in a list of items.
use Rattle.ckpt_align.proofs.Names.{◌≡◌, ◌≢◌, ℕ, List, [], ◌∷◌, ◌++◌, ◌∙◌, length, refl, sym, ap, arith, common_steps, append_assoc, Item, Element, Barrier, End, elements, before}
use Rattle.std.proofs.lemmas.List.{length-append}

pub elements-append : (c d : List Item) → elements (c ++ d) ≡ elements c ++ elements d
elements-append [] d = refl
elements-append (Element x ∷ c) d = grind (arith, common_steps, elements-append c d)
elements-append (Barrier m ∷ c) d = elements-append c d
elements-append (End ∷ c) d = elements-append c d

-- neither the barrier of this record nor the end is among the items: what follows them decides
abbrev pub Runs : ℕ → List Item → Type 0
Runs n c = (rest : List Item) → before n (c ++ rest) ≡ elements c ++ before n rest

-- one of them is: what follows does not count
abbrev pub Stops : ℕ → List Item → Type 0
Stops n c = (rest : List Item) → before n (c ++ rest) ≡ elements c

pub runs_none : (n : ℕ) → Runs n []
runs_none n rest = refl

pub runs_on : (n : ℕ) (c : List Item) (x : ℕ) → Runs n c → Runs n (c ++ Element x ∷ [])
runs_on n c x h rest = grind (arith, common_steps, elements-append c (Element x ∷ []), append_assoc c (Element x ∷ []) rest, h (Element x ∷ rest), append_assoc (elements c) (x ∷ []) (before n rest))

pub runs_past : (n m : ℕ) (c : List Item) → m ≢ n → Runs n c → Runs n (c ++ Barrier m ∷ [])
runs_past n m c other h rest = grind (arith, common_steps, elements-append c (Barrier m ∷ []), append_assoc c (Barrier m ∷ []) rest, h (Barrier m ∷ rest))

pub stops_at : (n : ℕ) (c : List Item) → Runs n c → Stops n (c ++ Barrier n ∷ [])
stops_at n c h rest = grind (arith, common_steps, elements-append c (Barrier n ∷ []), append_assoc c (Barrier n ∷ []) rest, h (Barrier n ∷ rest))

pub stops_at_end : (n : ℕ) (c : List Item) → Runs n c → Stops n (c ++ End ∷ [])
stops_at_end n c h rest = grind (arith, common_steps, elements-append c (End ∷ []), append_assoc c (End ∷ []) rest, h (End ∷ rest))

pub runs-append : (n : ℕ) (c d : List Item) → Runs n c → Runs n d → Runs n (c ++ d)
runs-append n c d first second rest = grind (arith, common_steps, elements-append c d, append_assoc c d rest, first (d ++ rest), second rest, append_assoc (elements c) (elements d) (before n rest))

-- then what follows cannot be without effect
pub runs_not_fixed : (n : ℕ) (c : List Item) (xs : List ℕ) → Runs n c → ((rest : List Item) → before n (c ++ rest) ≡ xs) → ⊥
runs_not_fixed n c xs runs fixed =
    let e : elements c ++ 0 ∷ [] ≡ elements c ++ [] = sym (runs (Element 0 ∷ [])) ∙ fixed (Element 0 ∷ []) ∙ sym (fixed []) ∙ runs [] in
    let long : length (elements c ++ 0 ∷ []) ≡ length (elements c ++ []) = ap length e in
    absurd (grind (arith, common_steps, length-append (elements c) (0 ∷ []), length-append (elements c) []))
