-- Lists, some items of which stand in another list in their order.
use Rattle.ckpt_durable.proofs.Names.{◌≡◌, ℕ, zero, suc, List, [], ◌∷◌, ◌++◌, take, refl, ◌∙◌, inl, inr, ⊎_elim, IsWithin}

module _ {X : Type 0} where
  pub within_skip : (xs ys : List X) (y : X) → IsWithin xs ys → IsWithin xs (y ∷ ys)
  within_skip [] ys y h = tt
  within_skip (x ∷ xs) ys y h = inr h

  pub within_both : (xs ys us vs : List X) → IsWithin xs ys → IsWithin us vs → IsWithin (xs ++ us) (ys ++ vs)
  within_both [] [] us vs h k = k
  within_both [] (y ∷ ys) us vs h k = within_skip us (ys ++ vs) y (within_both [] ys us vs tt k)
  within_both (x ∷ xs) [] us vs h k = absurd h
  within_both (x ∷ xs) (y ∷ ys) us vs h k =
      ⊎_elim (λ (i : (x ≡ y) × IsWithin xs ys). inl (i.0, within_both xs ys us vs i.1 k)) (λ (i : IsWithin (x ∷ xs) ys). inr (within_both (x ∷ xs) ys us vs i k)) h

  pub within_itself : (xs : List X) → IsWithin xs xs
  within_itself [] = tt
  within_itself (x ∷ xs) = inl (refl, within_itself xs)

  pub within_take : (n : ℕ) (xs : List X) → IsWithin (take n xs) xs
  within_take zero xs = tt
  within_take (suc n) [] = tt
  within_take (suc n) (x ∷ xs) = inl (refl, within_take n xs)

  pub within_then : (xs ys zs : List X) → IsWithin xs ys → IsWithin ys zs → IsWithin xs zs
  within_then [] ys zs h k = tt
  within_then (x ∷ xs) [] zs h k = absurd h
  within_then (x ∷ xs) (y ∷ ys) [] h k = absurd k
  within_then (x ∷ xs) (y ∷ ys) (z ∷ zs) h k =
      ⊎_elim
      (λ (j : (y ≡ z) × IsWithin ys zs).
      ⊎_elim (λ (i : (x ≡ y) × IsWithin xs ys). inl (i.0 ∙ j.0, within_then xs ys zs i.1 j.1)) (λ (i : IsWithin (x ∷ xs) ys). inr (within_then (x ∷ xs) ys zs i j.1)) h)
      (λ (j : IsWithin (y ∷ ys) zs). inr (within_then (x ∷ xs) (y ∷ ys) zs h j))
      k

  pub within_rest : (x : X) (xs ys : List X) → IsWithin (x ∷ xs) ys → IsWithin xs ys
  within_rest x xs [] h = absurd h
  within_rest x xs (y ∷ ys) h =
      ⊎_elim (λ (i : (x ≡ y) × IsWithin xs ys). within_skip xs ys y i.1) (λ (i : IsWithin (x ∷ xs) ys). within_skip xs ys y (within_rest x xs ys i)) h

  pub within_later : (xs us ys : List X) → IsWithin (xs ++ us) ys → IsWithin us ys
  within_later [] us ys h = h
  within_later (x ∷ xs) us ys h = within_later xs us ys (within_rest x (xs ++ us) ys h)
