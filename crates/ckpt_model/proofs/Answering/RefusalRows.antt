-- The rows of the table of refusals, one after the other.
use Rattle.ckpt_model.proofs.Names.{◌≡◌, List, [], ◌∷◌, ap, ◌∙◌, Option, Some, None, Refusal, first_some, common_steps, arith}

-- the row that holds decides
pub row_holds : (why : Refusal) (row : Option Refusal) (rows : List (Option Refusal)) → Some why ≡ row → Some why ≡ first_some (row ∷ rows)
row_holds why row rows e = ap (λ r. first_some (r ∷ rows)) e

-- a row that does not hold leaves it to the others
pub row_fails : (row : Option Refusal) (rows : List (Option Refusal)) (o : Option Refusal) → None ≡ row → o ≡ first_some rows → o ≡ first_some (row ∷ rows)
row_fails row rows o e h = h ∙ ap (λ r. first_some (r ∷ rows)) e

-- a row that no other follows decides
pub row_last : (row : Option Refusal) (rows : List (Option Refusal)) (o : Option Refusal) → o ≡ row → first_some rows ≡ None → o ≡ first_some (row ∷ rows)
row_last row rows o h3 h4 = grind (arith, common_steps)

-- if none holds, the first does not
pub first_row-none : (row : Option Refusal) (rows : List (Option Refusal)) → first_some (row ∷ rows) ≡ None → row ≡ None
first_row-none row rows h2 = grind (arith, common_steps)

-- two rows, then others
pub rows_hold : (why : Refusal) (row next : Option Refusal) (rows : List (Option Refusal)) → Some why ≡ first_some (row ∷ next ∷ []) → Some why ≡ first_some (row ∷ next ∷ rows)
rows_hold why row next rows h4 = grind (arith, common_steps)

pub rows_fail : (row next : Option Refusal) (rows : List (Option Refusal)) (o : Option Refusal) → None ≡ first_some (row ∷ next ∷ []) → o ≡ first_some rows → o ≡ first_some (row ∷ next ∷ rows)
rows_fail row next rows o h4 h5 = grind (arith, common_steps)
