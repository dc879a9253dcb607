-- Values that are the data of the first elements of a list.
use Rattle.ckpt_answers.proofs.Names.{◌≡◌, ◌∙◌, ℕ, ◌+◌, ◌≤◌, List, [], ◌∷◌, ◌++◌, Some, take, length, sym, ap, slice_get, map, take_all, map_push, Data, array, view, items_of, items_view, list}
use Rattle.ckpt_answers.proofs.ListLemmas.{map-take-next}
use Rattle.serde_json.specs.declared.value.Value.{Value}

-- one value more, of the next element
pub views-next : {X : Type 0} (f : X → Data) (xs : List X) (k : ℕ) (x : X) (old new : List Value) (value : Value)
    → slice_get xs k ≡ Some x → map view old ≡ map f (take k xs) → new ≡ old ++ value ∷ [] → view value ≡ f x → map view new ≡ map f (take (k + 1) xs)
views-next f xs k x old new value found before grown shown =
    let pushed : map view new ≡ map view old ++ view value ∷ [] = ap (map view) grown ∙ map_push view old value in
    pushed ∙ ap (λ ds. ds ++ view value ∷ []) before ∙ ap (λ d. map f (take k xs) ++ d ∷ []) shown ∙ sym (map-take-next f xs k x found)

-- the values of all elements, as one list
pub views-whole : {X : Type 0} (f : X → Data) (xs : List X) (k : ℕ) (values : List Value) → map view values ≡ map f (take k xs) → length xs ≤ k → array (items_view values) ≡ list (map f xs)
views-whole f xs k values shown all = ap (λ ds. array (items_of ds)) (shown ∙ ap (map f) (take_all k xs all))
