-- Counts that stay at their greatest value.
use Rattle.ckpt_workers.proofs.Names.{Bool, List, [], arith, capped, cond, count_by, count_by_push, false, not, one_if, one_if-false, one_if-true, refl, true, ℕ, ◌++◌, ◌+◌, ◌∷◌, ◌≡◌}

-- one more at the end
pub capped-push : {X : Type 0} (p : X → Bool) (xs : List X) (x : X) (b : Bool) (old new : ℕ) → p x ≡ b → old ≡ capped (count_by p xs) → new ≡ cond b (capped (old + 1)) old
    → new ≡ capped (count_by p (xs ++ x ∷ []))
capped-push p xs x true old new is was now = omega (arith, count_by_push p xs x, one_if-true (p x) is)
capped-push p xs x false old new is was now = omega (arith, count_by_push p xs x, one_if-false (p x) is)

-- one more that fails the test
pub opposite : (b : Bool) → one_if (not b) ≡ cond b 0 1
opposite true = refl
opposite false = refl
