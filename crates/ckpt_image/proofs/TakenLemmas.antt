-- A fact about the first elements of a list and about the next holds for one element more.
use Rattle.ckpt_image.proofs.Names.{◌≡◌, ℕ, ◌+◌, ◌<◌, ◌≤◌, List, [], ◌∷◌, ◌++◌, take, length, get_or, map, sym, ap, subst, ◌∙◌, ⊎_elim, inl, inr, map_push, take_all, take_more, IsIn}
use Rattle.ckpt_image.proofs.Names.{IsIn-append_cases, Data, view, Value}

pub each-more : {X : Type 0} (P : X → Type 0) (xs : List X) (k : ℕ) (x : X) → k < length xs → x ≡ get_or xs k x → ((y : X) → IsIn y (take k xs) → P y) → P x → (y : X) → IsIn y (take (k + 1) xs) → P y
each-more {X} P xs k x within here before next y h =
    ⊎_elim (λ a. before y a) (λ b. last b) (IsIn-append_cases y (take k xs) (get_or xs k x ∷ []) (subst (IsIn y) (take_more xs k x within) h))
  where
    last : IsIn y (get_or xs k x ∷ []) → P y
    last (inl e) = subst P (here ∙ sym e) next
    last (inr none) = absurd none

pub each-whole : {X : Type 0} (P : X → Type 0) (xs : List X) (k : ℕ) → length xs ≤ k → ((y : X) → IsIn y (take k xs) → P y) → (y : X) → IsIn y xs → P y
each-whole P xs k all each y h = each y (subst (IsIn y) (sym (take_all k xs all)) h)

-- one value more, of the next element
pub views-more : {X : Type 0} (f : X → Data) (xs : List X) (k : ℕ) (x : X) (old new : List Value) (value : Value)
    → k < length xs → x ≡ get_or xs k x → map view old ≡ map f (take k xs) → new ≡ old ++ value ∷ [] → view value ≡ f x → map view new ≡ map f (take (k + 1) xs)
views-more f xs k x old new value within here before grown shown =
    let pushed : map view new ≡ map view old ++ view value ∷ [] = ap (map view) grown ∙ map_push view old value in
    let next : map f (take (k + 1) xs) ≡ map f (take k xs) ++ f (get_or xs k x) ∷ [] = ap (map f) (take_more xs k x within) ∙ map_push f (take k xs) (get_or xs k x) in
    pushed ∙ ap (λ ds. ds ++ view value ∷ []) before ∙ ap (λ d. map f (take k xs) ++ d ∷ []) (shown ∙ ap f here) ∙ sym next
