-- A place whose word is read by another function.
use Rattle.ckpt_lines.proofs.Names.{◌≡◌, ℕ, List, ◌∷◌, Result, LineFault, place, Gives, IsExact, common_steps, arith}

pub Gives-place : {X : Type 0} (read : List ℕ → Result X LineFault) (words : List (List ℕ)) (word : List ℕ) (rest : List (List ℕ)) (result : Result X LineFault)
    → words ≡ word ∷ rest → IsExact result (read word) → Gives result rest (place read words)
Gives-place read words word rest result h5 h6 = grind (arith, common_steps)
