-- The files that a coordinator knows, as one list, and the test whether one of them has a number or a greater one.
use Rattle.ckpt_terms.proofs.Imports.{◌≡◌, ℕ, ◌<◌, Bool, true, false, ◌||◌, eqb, leb, ltb, List, [], ◌∷◌, ◌++◌, map, refl, sym, ap, ◌∙◌, inl, inr, ⊎_elim, list_any, flat_map, cases_Bool}
use Rattle.ckpt_terms.proofs.Imports.{or_cases, leb-false, list_any-append, Acked, ascending, IsIn, Record, uses, is_present, IsIn-append_left, IsIn-append_right, IsIn-flat_map}
use Rattle.ckpt_terms.proofs.Imports.{IsIn-from_in_order, IsIn-in_order, IsIn-from_list_any, IsIn-from_test, list_any-from_IsIn, list_any-none, fails-from_list_any, Image, record_in, settled}
use Rattle.ckpt_terms.proofs.Imports.{state_in, State, is_known, in_outbox, Holds, IsHeld, IsHeld-from_present, files_by, has_known_from, known_files}

any_flat : {X Y : Type 0} (p : Y → Bool) (f : X → List Y) (xs : List X) → list_any p (flat_map f xs) ≡ list_any (λ x. list_any p (f x)) xs
any_flat p f [] = refl
any_flat p f (x ∷ xs) = list_any-append p (f x) (flat_map f xs) ∙ ap (λ (b : Bool). list_any p (f x) || b) (any_flat p f xs)

any_map : {X Y : Type 0} (p : Y → Bool) (f : X → Y) (xs : List X) → list_any p (map f xs) ≡ list_any (λ x. p (f x)) xs
any_map p f [] = refl
any_map p f (x ∷ xs) = ap (λ (b : Bool). p (f x) || b) (any_map p f xs)

-- lists with the same elements pass a test alike
any_same : {X : Type 0} (p : X → Bool) (xs ys : List X) → ((x : X) → IsIn x xs → IsIn x ys) → ((x : X) → IsIn x ys → IsIn x xs) → list_any p xs ≡ list_any p ys
any_same p xs ys there back =
    ⊎_elim
    (λ (h : list_any p xs ≡ true). let g = IsIn-from_list_any p xs h in h ∙ sym (list_any-from_IsIn p g.0 ys (there g.0 g.1) g.2))
    (λ (h : list_any p xs ≡ false). h ∙ sym (list_any-none p ys (λ x i. fails-from_list_any p xs h x (back x i))))
    (cases_Bool (list_any p xs))

-- the test by its parts
in_parts : (m : State) (first : ℕ) → has_known_from m first ≡ (list_any (leb first) (flat_map files_by m.records) || (list_any (leb first) m.waiting || list_any (leb first) m.taken))
in_parts m first =
    list_any-append (leb first) (flat_map files_by m.records) (m.waiting ++ m.taken)
    ∙ ap (λ (b : Bool). list_any (leb first) (flat_map files_by m.records) || b) (list_any-append (leb first) m.waiting m.taken)

-- the files of one record
pub any_used : (first : ℕ) (r : Record) → list_any (leb first) (files_by r) ≡ (list_any (λ a. list_any (leb first) a.files) r.acks || list_any (leb first) r.pins)
any_used first r =
    list_any-append (leb first) (flat_map (λ a. a.files) r.acks) r.pins
    ∙ ap (λ (b : Bool). b || list_any (leb first) r.pins) (any_flat (leb first) (λ (a : Acked). a.files) r.acks)

-- of an image
pub in_image : (i : Image) (first : ℕ)
    → has_known_from (state_in i) first ≡ (list_any (λ s. list_any (leb first) (files_by (record_in s))) i.records.items || (list_any (leb first) i.waiting || list_any (leb first) i.taken))
in_image i first =
    in_parts (state_in i) first
    ∙ ap (λ (b : Bool). b || (list_any (leb first) i.waiting || list_any (leb first) i.taken))
    (any_flat (leb first) files_by (map record_in i.records.items) ∙ any_map (λ (r : Record). list_any (leb first) (files_by r)) record_in i.records.items)

-- the order of the fetched files is nothing to it
pub settled_from : (m : State) (first : ℕ) → has_known_from (settled m) first ≡ has_known_from m first
settled_from m first =
    in_parts (settled m) first
    ∙ ap (λ (b : Bool). list_any (leb first) (flat_map files_by m.records) || (list_any (leb first) m.waiting || b))
    (any_same (leb first) (ascending m.taken) m.taken (λ f h. IsIn-from_in_order ltb f m.taken h) (λ f h. IsIn-in_order ltb f m.taken h))
    ∙ sym (in_parts m first)

pub settled_outbox : (m : State) (f : ℕ) → in_outbox (settled m) f ≡ in_outbox m f
settled_outbox m f =
    list_any-append (λ g. eqb f g) m.waiting (ascending m.taken)
    ∙ ap (λ (b : Bool). list_any (λ g. eqb f g) m.waiting || b)
    (any_same (λ g. eqb f g) (ascending m.taken) m.taken (λ x h. IsIn-from_in_order ltb x m.taken h) (λ x h. IsIn-in_order ltb x m.taken h))
    ∙ sym (list_any-append (λ g. eqb f g) m.waiting m.taken)

held_file : (f : ℕ) (r : Record) → Holds f r → IsIn f (files_by r)
held_file f r (inl h) = IsIn-append_left f (flat_map (λ a. a.files) r.acks) r.pins (IsIn-flat_map (λ (a : Acked). a.files) h.0 f r.acks h.1 h.2)
held_file f r (inr h) = IsIn-append_right f (flat_map (λ a. a.files) r.acks) r.pins h

known_there : (m : State) (f : ℕ) → is_known m f ≡ true → IsIn f (known_files m)
known_there m f h =
    let used : List ℕ = flat_map files_by m.records in
    ⊎_elim
    (λ (k : is_present (uses m.records) f ≡ true). let g : IsHeld f m.records = IsHeld-from_present f m.records k in
    IsIn-append_left f used (m.waiting ++ m.taken) (IsIn-flat_map files_by g.0 f m.records g.1 (held_file f g.0 g.2)))
    (λ (k : in_outbox m f ≡ true). IsIn-append_right f used (m.waiting ++ m.taken) (IsIn-from_test f (m.waiting ++ m.taken) k))
    (or_cases (is_present (uses m.records) f) (in_outbox m f) h)

-- if none has the number or a greater one, each known file is below it
pub known_below : (m : State) (first : ℕ) → has_known_from m first ≡ false → (f : ℕ) → is_known m f ≡ true → f < first
known_below m first none f h = leb-false first f (fails-from_list_any (leb first) (known_files m) none f (known_there m f h))
