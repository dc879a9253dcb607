-- The first elements of a list, and what comes next.
use Rattle.ckpt_answers.proofs.Names.{◌≡◌, ◌∙◌, ℕ, zero, suc, ◌+◌, ◌<◌, Bool, true, false, cond, List, [], ◌∷◌, ◌++◌, Some, None, take, length, get_or, refl, sym, ap, arith, append-nil, ⊎_elim}
use Rattle.ckpt_answers.proofs.Names.{count_by, slice_get, map, flat_map, Option, option_map_or, cases_Bool, count_by_more_yes, count_by_more_no, take_more, map_push}
use Rattle.std.proofs.lemmas.Option.{slice_get_within, get_or_from_slice_get}
use Rattle.std.proofs.lemmas.Grind.{flat_map-append}

pub take-next : {X : Type 0} (xs : List X) (k : ℕ) (x : X) → slice_get xs k ≡ Some x → take (k + 1) xs ≡ take k xs ++ x ∷ []
take-next xs k x found = take_more xs k x (slice_get_within xs k x found) ∙ ap (λ y. take k xs ++ y ∷ []) (get_or_from_slice_get xs k x x found)

pub map-take-next : {X Y : Type 0} (f : X → Y) (xs : List X) (k : ℕ) (x : X) → slice_get xs k ≡ Some x → map f (take (k + 1) xs) ≡ map f (take k xs) ++ f x ∷ []
map-take-next f xs k x found = ap (map f) (take-next xs k x found) ∙ map_push f (take k xs) x

pub flat_map-take-next : {X Y : Type 0} (f : X → List Y) (xs : List X) (k : ℕ) (x : X) → slice_get xs k ≡ Some x → flat_map f (take (k + 1) xs) ≡ flat_map f (take k xs) ++ f x
flat_map-take-next f xs k x found =
    ap (flat_map f) (take-next xs k x found) ∙ flat_map-append f (take k xs) (x ∷ []) ∙ ap (λ ys. flat_map f (take k xs) ++ ys) (append-nil (f x))

-- within the length there is an element
pub none_within-absurd : {X : Type 0} (xs : List X) (k : ℕ) → slice_get xs k ≡ None → k < length xs → ⊥
none_within-absurd [] k none within = omega arith
none_within-absurd (x ∷ xs) zero none within = cc
none_within-absurd (x ∷ xs) (suc k) none within = none_within-absurd xs k none (omega arith)

-- the count in a prefix, with one element more
pub count_by-take-next : {X : Type 0} (p : X → Bool) (xs : List X) (k : ℕ) (b : Bool) (old new : ℕ) → k < length xs → b ≡ option_map_or p (slice_get xs k) false
    → old ≡ count_by p (take k xs) → new ≡ old + cond b 1 0 → new ≡ count_by p (take (k + 1) xs)
count_by-take-next {X} p xs k b old new within e before after = by (slice_get xs k) refl
  where
    by : (o : Option X) → slice_get xs k ≡ o → new ≡ count_by p (take (k + 1) xs)
    by None none = absurd (none_within-absurd xs k none within)
    by (Some x) found =
        let same : p (get_or xs k x) ≡ b = ap p (get_or_from_slice_get xs k x x found) ∙ sym (e ∙ ap (λ o. option_map_or p o false) found) in
        let counts : (t : Bool) → b ≡ t → new ≡ old + cond t 1 0 = λ t is. after ∙ ap (λ c. old + cond c 1 0) is in
        ⊎_elim
        (λ (t : b ≡ true). let one : new ≡ old + 1 = counts true t in let more : count_by p (take (k + 1) xs) ≡ count_by p (take k xs) + 1 = count_by_more_yes p xs k x within (same ∙ t) in
        omega arith)
        (λ (t : b ≡ false). let none : new ≡ old + 0 = counts false t in let more : count_by p (take (k + 1) xs) ≡ count_by p (take k xs) = count_by_more_no p xs k x within (same ∙ t) in omega arith)
        (cases_Bool b)
