-- Lists in order. `before` is the order, as a test.
use Rattle.std.specs.Prelude.{◌≡◌, ℕ, Bool, true, false, ◌||◌, ◌==◌, List, [], ◌∷◌, if◌then◌else◌, ◌⊎◌}
use Rattle.std.specs.List.{list_any}

-- x is one of the elements
abbrev pub IsIn : {X : Type 0} → X → List X → Type 0
IsIn x [] = ⊥
IsIn x (y ∷ ys) = (x ≡ y) ⊎ IsIn x ys

-- no element occurs twice
abbrev pub AreDistinct : {X : Type 0} → List X → Type 0
AreDistinct [] = Unit {0}
AreDistinct (x ∷ xs) = (IsIn x xs → ⊥) × AreDistinct xs

-- the opposite, as a test on numbers: one occurs twice
abbrev pub has_repeats : List ℕ → Bool
has_repeats [] = false
has_repeats (x ∷ xs) = list_any (λ y. x == y) xs || has_repeats xs

-- x comes before each element
abbrev pub ComesBefore : {X : Type 0} → (X → X → Bool) → X → List X → Type 0
ComesBefore before x [] = Unit {0}
ComesBefore before x (y ∷ ys) = (before x y ≡ true) × ComesBefore before x ys

-- each element comes before all later ones
abbrev pub IsInOrder : {X : Type 0} → (X → X → Bool) → List X → Type 0
IsInOrder before [] = Unit {0}
IsInOrder before (x ∷ xs) = ComesBefore before x xs × IsInOrder before xs

-- the list with x before the first element that does not come before it
abbrev pub put : {X : Type 0} → (X → X → Bool) → X → List X → List X
put before x [] = x ∷ []
put before x (y ∷ ys) = if before y x then y ∷ put before x ys else x ∷ y ∷ ys

-- the same, unless x is in the list already
abbrev pub put_once : {X : Type 0} → (X → X → Bool) → X → List X → List X
put_once before x [] = x ∷ []
put_once before x (y ∷ ys) = if before y x then y ∷ put_once before x ys else (if before x y then x ∷ y ∷ ys else y ∷ ys)

-- the same elements in order; an element that occurs twice stays twice
abbrev pub in_order : {X : Type 0} → (X → X → Bool) → List X → List X
in_order before [] = []
in_order before (x ∷ xs) = put before x (in_order before xs)

-- the elements in order, each once
abbrev pub in_order_once : {X : Type 0} → (X → X → Bool) → List X → List X
in_order_once before [] = []
in_order_once before (x ∷ xs) = put_once before x (in_order_once before xs)

-- no element comes before itself, and two that do not come before one another are one
pub record IsStrictOrder {X : Type 0} (before : X → X → Bool) : Type 0 where
  pub irreflexive : (x : X) → before x x ≡ false
  pub transitive : (x y z : X) → before x y ≡ true → before y z ≡ true → before x z ≡ true
  pub total : (x y : X) → before x y ≡ false → before y x ≡ false → x ≡ y
