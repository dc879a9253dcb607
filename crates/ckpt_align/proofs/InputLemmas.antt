-- Lists of inputs.
use Rattle.ckpt_align.proofs.Names.{◌≡◌, ◌≢◌, ℕ, zero, suc, Bool, true, false, List, [], ◌∷◌, length, map, refl, ap, arith, common_steps, Some, replicate, slice_get, slice_set, list_any}
use Rattle.ckpt_align.proofs.Names.{Input, Open, Held, Ended, is_held, is_open, released}

pub get-set_same : {X : Type 0} (xs : List X) (i : ℕ) (x y : X) → slice_get xs i ≡ Some x → slice_get (slice_set xs i y) i ≡ Some y
get-set_same [] i x y e = grind (arith, common_steps)
get-set_same (z ∷ xs) zero x y e = refl
get-set_same (z ∷ xs) (suc i) x y e = get-set_same xs i x y e

pub get-set_other : {X : Type 0} (xs : List X) (i j : ℕ) (y : X) → i ≢ j → slice_get (slice_set xs i y) j ≡ slice_get xs j
get-set_other [] i j y other = refl
get-set_other (z ∷ xs) zero zero y other = absurd (other refl)
get-set_other (z ∷ xs) zero (suc j) y other = refl
get-set_other (z ∷ xs) (suc i) zero y other = refl
get-set_other (z ∷ xs) (suc i) (suc j) y other = get-set_other xs i j y (λ e. other (ap suc e))

pub get-replicate : {X : Type 0} (n j : ℕ) (x y : X) → slice_get (replicate n x) j ≡ Some y → y ≡ x
get-replicate zero j x y e = grind (arith, common_steps)
get-replicate (suc n) zero x y e = grind (arith, common_steps)
get-replicate (suc n) (suc j) x y e = get-replicate n j x y e

pub length-replicate : {X : Type 0} (n : ℕ) (x : X) → length (replicate n x) ≡ n
length-replicate n x = grind (arith, common_steps)

-- an element that passes a test is found
pub any-get : {X : Type 0} (p : X → Bool) (xs : List X) (j : ℕ) (x : X) → slice_get xs j ≡ Some x → p x ≡ true → list_any p xs ≡ true
any-get p [] j x e passes = grind (arith, common_steps)
any-get p (z ∷ xs) zero x e passes = grind (arith, common_steps)
any-get p (z ∷ xs) (suc j) x e passes = grind (arith, common_steps, any-get p xs j x)

-- the inputs of a released alignment come from those before
pub get-released : (xs : List Input) (j : ℕ) (s : Input) → slice_get (map released xs) j ≡ Some s → (t : Input) × (slice_get xs j ≡ Some t) × (s ≡ released t)
get-released [] j s e = grind (arith, common_steps)
get-released (x ∷ xs) zero s e = (x, refl, grind (arith, common_steps))
get-released (x ∷ xs) (suc j) s e = get-released xs j s e

pub get-released_open : (xs : List Input) (j : ℕ) → slice_get xs j ≡ Some Open → slice_get (map released xs) j ≡ Some Open
get-released_open [] j e = e
get-released_open (x ∷ xs) zero e = grind (arith, common_steps)
get-released_open (x ∷ xs) (suc j) e = get-released_open xs j e

-- none is held any more
pub none_held : (xs : List Input) → list_any is_held (map released xs) ≡ false
none_held [] = refl
none_held (Open ∷ xs) = none_held xs
none_held (Held ∷ xs) = none_held xs
none_held (Ended ∷ xs) = none_held xs

-- an input that ends holds nothing
pub held-from_ended : (xs : List Input) (i : ℕ) → list_any is_held (slice_set xs i Ended) ≡ true → list_any is_held xs ≡ true
held-from_ended [] i e = e
held-from_ended (x ∷ xs) zero e = grind (arith, common_steps)
held-from_ended (x ∷ xs) (suc i) e = grind (arith, common_steps, held-from_ended xs i)

-- once a held input is released it is open, also if an open one is then held
pub open-from_held : (xs : List Input) (i : ℕ) → list_any is_held xs ≡ true → slice_get xs i ≡ Some Open → list_any is_open (slice_set (map released xs) i Held) ≡ true
open-from_held [] i held at = grind (arith, common_steps)
open-from_held (Open ∷ xs) zero held at = held-released xs held
  where
    held-released : (ys : List Input) → list_any is_held ys ≡ true → list_any is_open (map released ys) ≡ true
    held-released [] e = e
    held-released (Open ∷ ys) e = refl
    held-released (Held ∷ ys) e = refl
    held-released (Ended ∷ ys) e = held-released ys e
open-from_held (Held ∷ xs) zero held at = grind (arith, common_steps)
open-from_held (Ended ∷ xs) zero held at = grind (arith, common_steps)
open-from_held (Open ∷ xs) (suc i) held at = refl
open-from_held (Held ∷ xs) (suc i) held at = refl
open-from_held (Ended ∷ xs) (suc i) held at = open-from_held xs i held at
