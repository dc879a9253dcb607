-- Reading words one after the other, as a loop does.
use Rattle.ckpt_lines.proofs.Names.{◌≡◌, ℕ, List, [], ◌∷◌, ◌++◌, Result, Ok, Err, append_assoc, LineFault, ◌>>=◌, each, common_steps, arith}

-- what was read before, and then what is still to be read
abbrev pub with_front : {X : Type 0} → List X → Result (List X) LineFault → Result (List X) LineFault
with_front front read = read >>= λ others. Ok (front ++ others)

regroup : {X : Type 0} (front : List X) (x : X) (read : Result (List X) LineFault) → with_front front (read >>= λ others. Ok (x ∷ others)) ≡ with_front (front ++ x ∷ []) read
regroup front x read = grind (arith, common_steps, append_assoc)

pub goes_on : {X : Type 0} (read : List ℕ → Result X LineFault) (front : List X) (words : List (List ℕ)) (word : List ℕ) (rest : List (List ℕ)) (x : X) (total : Result (List X) LineFault)
    → words ≡ word ∷ rest → read word ≡ Ok x → with_front front (each read words) ≡ total → with_front (front ++ x ∷ []) (each read rest) ≡ total
unfolding each
goes_on {X} read front words word rest x total split one so_far = grind (arith, common_steps)

pub fails : {X : Type 0} (read : List ℕ → Result X LineFault) (front : List X) (words : List (List ℕ)) (word : List ℕ) (rest : List (List ℕ)) (why : LineFault) (total : Result (List X) LineFault)
    → words ≡ word ∷ rest → read word ≡ Err why → with_front front (each read words) ≡ total → total ≡ Err why
unfolding each
fails {X} read front words word rest why total split one so_far = grind (arith, common_steps)

pub is_done : {X : Type 0} (read : List ℕ → Result X LineFault) (front : List X) (words : List (List ℕ)) (total : Result (List X) LineFault)
    → words ≡ [] → with_front front (each read words) ≡ total → total ≡ Ok front
unfolding each
is_done {X} read front words total none so_far = grind (arith, common_steps)

pub with_front-nil : {X : Type 0} (read : Result (List X) LineFault) → with_front [] read ≡ read
with_front-nil read = grind (arith, common_steps)
