-- Counting in lists by a test, and what a filtered and changed list has.
use Rattle.ckpt_model.proofs.Names.{◌≡◌, suc, ◌≤◌, Bool, true, false, cond, List, [], ◌∷◌, map, refl, ap, ◌∙◌, inl, inr, arith, count_by, find, Some, None, filter, IsIn, IsIn-map, IsIn-from_map}
use Rattle.ckpt_model.proofs.Names.{IsIn-filter, IsIn-from_filter, common_steps}

-- one more element adds at most one
pub count_by_at_most_more : {X : Type 0} (p : X → Bool) (x : X) (xs : List X) → count_by p (x ∷ xs) ≤ suc (count_by p xs)
count_by_at_most_more p x xs = grind (arith, common_steps)

-- a test that passes whenever another does counts no less
pub count_by-le : {X : Type 0} (p q : X → Bool) (xs : List X) → ((x : X) → IsIn x xs → p x ≡ true → q x ≡ true) → count_by p xs ≤ count_by q xs
count_by-le p q [] f = grind (arith, common_steps)
count_by-le {X} p q (x ∷ xs) f = grind (arith, common_steps, count_by-le p q xs)

-- of what a filter keeps and a change makes of it, no more pass than passed some test before
pub count_by-changed : {X Y : Type 0} (t : Y → Bool) (s : X → Bool) (f : X → Y) (keep : X → Bool) (xs : List X) → ((x : X) → IsIn x xs → keep x ≡ true → t (f x) ≡ true → s x ≡ true)
    → count_by t (map f (filter keep xs)) ≤ count_by s xs
count_by-changed t s f keep [] h = grind (arith, common_steps)
count_by-changed {X} {Y} t s f keep (x ∷ xs) h = grind (arith, common_steps, count_by-changed t s f keep xs)

-- and no fewer than passed some test before, if those are kept and pass
pub count_by-left : {X Y : Type 0} (t : Y → Bool) (s : X → Bool) (f : X → Y) (keep : X → Bool) (xs : List X) → ((x : X) → IsIn x xs → s x ≡ true → (keep x ≡ true) × (t (f x) ≡ true))
    → count_by s xs ≤ count_by t (map f (filter keep xs))
count_by-left t s f keep [] h = grind (arith, common_steps)
count_by-left {X} {Y} t s f keep (x ∷ xs) h = grind (arith, common_steps, count_by-left t s f keep xs)

-- an element of a list that was filtered and changed comes from one that was kept
pub IsIn-from_changed : {X Y : Type 0} (f : X → Y) (keep : X → Bool) (y : Y) (xs : List X) → IsIn y (map f (filter keep xs)) → (x : X) × IsIn x xs × (keep x ≡ true) × (y ≡ f x)
IsIn-from_changed f keep y xs h = grind (arith, common_steps, IsIn-from_filter, IsIn-from_map)

-- an element that was kept is there, changed
pub IsIn-changed : {X Y : Type 0} (f : X → Y) (keep : X → Bool) (x : X) (xs : List X) → IsIn x xs → keep x ≡ true → IsIn (f x) (map f (filter keep xs))
IsIn-changed f keep x xs h k = IsIn-map f x (filter keep xs) (IsIn-filter keep x xs h k)

-- what `find` finds is in the list and passes
pub IsIn-from_find : {X : Type 0} (p : X → Bool) (x : X) (xs : List X) → find p xs ≡ Some x → IsIn x xs × (p x ≡ true)
IsIn-from_find p x [] h = grind (arith, common_steps)
IsIn-from_find {X} p x (y ∷ xs) h = grind (arith, common_steps, IsIn-from_find p x xs)

-- if nothing is found, none passes
pub fails-from_find : {X : Type 0} (p : X → Bool) (x : X) (xs : List X) → find p xs ≡ None → IsIn x xs → p x ≡ false
fails-from_find p x [] e h = grind (arith, common_steps)
fails-from_find {X} p x (y ∷ xs) e h = grind (arith, common_steps, fails-from_find p x xs)

-- a change of elements that are kept
pub map_same : {X Y : Type 0} (f g : X → Y) (xs : List X) → ((x : X) → IsIn x xs → f x ≡ g x) → map f xs ≡ map g xs
map_same f g [] e = refl
map_same f g (x ∷ xs) e = grind (arith, common_steps, e, map_same f g xs)

-- a change that leaves each element
pub map_itself : {X : Type 0} (f : X → X) (xs : List X) → ((x : X) → IsIn x xs → f x ≡ x) → map f xs ≡ xs
map_itself f [] e = refl
map_itself {X} f (x ∷ xs) e = ap (λ y. y ∷ map f xs) (e x (inl refl)) ∙ ap (λ ys. x ∷ ys) (map_itself f xs (λ y h. e y (inr h)))

-- two tests that agree find the same
pub find_agree : {X : Type 0} (p q : X → Bool) (xs : List X) → ((x : X) → IsIn x xs → p x ≡ q x) → find p xs ≡ find q xs
find_agree p q [] agree = refl
find_agree p q (x ∷ xs) agree = ap (λ b. cond b (Some x) (find p xs)) (agree x (inl refl)) ∙ ap (λ o. cond (q x) (Some x) o) (find_agree p q xs (λ y h. agree y (inr h)))
