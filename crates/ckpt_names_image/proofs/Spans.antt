-- An array that has not two items is no range.
use Rattle.ckpt_names_image.proofs.Names.{◌≡◌, List, [], ◌∷◌, length, refl, None, pair_of, items_view, Value}

pub other_items : (vs : List Value) → (length vs ≡ 2 → ⊥) → pair_of (items_view vs) ≡ None
other_items [] h = refl
other_items (x ∷ []) h = refl
other_items (x ∷ y ∷ []) h = absurd (h refl)
other_items (x ∷ y ∷ z ∷ vs) h = refl
