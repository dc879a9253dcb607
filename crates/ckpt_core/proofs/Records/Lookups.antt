-- What is found in the records in rising number is found in the groups.
use Rattle.ckpt_core.proofs.Names.{◌≡◌, ℕ, suc, ◌+◌, Bool, true, false, ◌&&◌, cond, eqb, List, [], ◌∷◌, ◌++◌, map, length, refl, sym, ap, ◌∙◌, inl, inr, ⊎_elim, Some, None, count_by, find, option_map}
use Rattle.ckpt_core.proofs.Names.{both_ways, eqb-true, and_parts, and_left, not_from_false, not_from_true, length-append, length-map, IsIn, put, in_order, Record, Use, IsIn-append_cases}
use Rattle.ckpt_core.proofs.Names.{IsIn-in_order, IsIn-from_in_order, list_any-none, find-none, id_before, is_pending, pending_of, with_pins, grouped, records_of, count_by-append, count_by-map}
use Rattle.ckpt_core.proofs.Names.{count_by-in_order, count_by-same, IsIn-from_find, fails-from_find, find_agree, common_steps, arith}
use Rattle.ckpt_core.proofs.Records.Grouped.{AreApart}
use Rattle.ckpt_ids.specs.declared.numbers.Kind.TheVariants as kind

-- counts

length-put : (x : Record) (xs : List Record) → length (put id_before x xs) ≡ suc (length xs)
length-put x [] = refl
length-put x (y ∷ xs) = grind (arith, common_steps, length-put x xs)

pub length-in_order : (xs : List Record) → length (in_order id_before xs) ≡ length xs
length-in_order [] = refl
length-in_order (x ∷ xs) = length-put x (in_order id_before xs) ∙ ap suc (length-in_order xs)

pub length-records_of : (us : List Use) (pending checkpoints savepoints : List Record) → length (records_of us pending checkpoints savepoints)
    ≡ length pending + (length checkpoints + length savepoints)
length-records_of us pending checkpoints savepoints = grind (arith, common_steps, length-append, length-in_order, length-map)

pub count_by-records_of : (p : Record → Bool) (us : List Use) (pending checkpoints savepoints : List Record) → ((r : Record) → p (with_pins us r) ≡ p r) →
    count_by p (records_of us pending checkpoints savepoints) ≡ count_by p pending + (count_by p checkpoints + count_by p savepoints)
count_by-records_of p us pending checkpoints savepoints same = grind (arith, common_steps, count_by-append, count_by-in_order, count_by-map, count_by-same)

-- the one that passes a test

pub find-one : (p : Record → Bool) (x : Record) (xs : List Record) → IsIn x xs → p x ≡ true → ((y : Record) → IsIn y xs → p y ≡ true → y ≡ x) → find p xs ≡ Some x
find-one p x xs h t one = let none : find p xs ≡ None → find p xs ≡ Some x = λ (e : find p xs ≡ None). absurd (both_ways (p x) (fails-from_find p x xs e h) t) in
    let some : (y : Record) → find p xs ≡ Some y → find p xs ≡ Some x = λ y e. let k = IsIn-from_find p y xs e in e ∙ ap (λ w. Some w) (one y k.0 k.1) in
    elim (find p xs) as (λ o. (find p xs ≡ o → find p xs ≡ Some x)) [ None ↦ none | Some y ↦ some y ] refl

pub find_same : (p : Record → Bool) (xs ys : List Record) → ((z : Record) → IsIn z xs → IsIn z ys) → ((z : Record) → IsIn z ys → IsIn z xs) →
    ((y z : Record) → IsIn y xs → IsIn z xs → p y ≡ true → p z ≡ true → y ≡ z) → find p xs ≡ find p ys
find_same p xs ys forth back one =
    let none : find p ys ≡ None → find p xs ≡ find p ys = λ (e : find p ys ≡ None). find-none p xs (list_any-none p xs (λ z h. fails-from_find p z ys e (forth z h))) ∙ sym e in
    let some : (y : Record) → find p ys ≡ Some y → find p xs ≡ find p ys = λ y e. let k = IsIn-from_find p y ys e in
    find-one p y xs (back y k.0) k.1 (λ z h t. one z y h (back y k.0) t k.1) ∙ sym e in elim (find p ys) as (λ o. (find p ys ≡ o → find p xs ≡ find p ys)) [ None ↦ none | Some y ↦ some y ] refl

pub one_of_number : (xs : List Record) → AreApart xs → (y z : Record) → IsIn y xs → IsIn z xs → y.id ≡ z.id → y ≡ z
one_of_number [] a y z h k e = absurd h
one_of_number (x ∷ xs) a y z (inl b) (inl c) e = b ∙ sym c
one_of_number (x ∷ xs) a y z (inl b) (inr k) e = absurd (a.0 z k (ap (λ w. w.id) (sym b) ∙ e))
one_of_number (x ∷ xs) a y z (inr h) (inl c) e = absurd (a.0 y h (ap (λ w. w.id) (sym c) ∙ sym e))
one_of_number (x ∷ xs) a y z (inr h) (inr k) e = one_of_number xs a.1 y z h k e

-- a test that only records of one number pass finds the same in the records in order and in the groups
pub find-records_of : (p : Record → Bool) (id : ℕ) (us : List Use) (pending checkpoints savepoints : List Record) → AreApart (grouped us pending checkpoints savepoints) →
    ((r : Record) → p r ≡ true → r.id ≡ id) → find p (records_of us pending checkpoints savepoints) ≡ find p (grouped us pending checkpoints savepoints)
find-records_of p id us pending checkpoints savepoints apart only = grind (arith, common_steps, IsIn-from_in_order, IsIn-in_order, find_same, one_of_number)

pub find-append_left : {X : Type 0} (p : X → Bool) (xs ys : List X) → ((y : X) → IsIn y ys → p y ≡ false) → find p (xs ++ ys) ≡ find p xs
find-append_left p [] ys fails = find-none p ys (list_any-none p ys fails)
find-append_left p (x ∷ xs) ys fails = ap (λ o. cond (p x) (Some x) o) (find-append_left p xs ys fails)

pub find-map : {X Y : Type 0} (p : Y → Bool) (f : X → Y) (xs : List X) → find p (map f xs) ≡ option_map f (find (λ x. p (f x)) xs)
find-map p f [] = refl
find-map {X} {Y} p f (x ∷ xs) = grind (arith, common_steps, find-map p f xs)

-- what the groups hold
pub record AreGroups (pending checkpoints savepoints : List Record) : Type 0 where
  pub not_done : (r : Record) → IsIn r pending → r.done ≡ false
  pub checkpoints_done : (r : Record) → IsIn r checkpoints → (r.done ≡ true) × (r.kind ≡ kind.Checkpoint)
  pub savepoints_done : (r : Record) → IsIn r savepoints → (r.done ≡ true) × (r.kind ≡ kind.Savepoint)

abbrev pub has_number : ℕ → Record → Bool
has_number id r = eqb r.id id

pub done_in : {pending checkpoints savepoints : List Record} → AreGroups pending checkpoints savepoints → (r : Record) → IsIn r (checkpoints ++ savepoints) → r.done ≡ true
done_in {pending} {checkpoints} {savepoints} groups r h = ⊎_elim (λ (k : IsIn r checkpoints). (groups.checkpoints_done r k).0) (λ (k : IsIn r savepoints). (groups.savepoints_done r k).0)
    (IsIn-append_cases r checkpoints savepoints h)

-- the pending record of a number
pub pending_of-groups : (id : ℕ) (us : List Use) (pending checkpoints savepoints : List Record) → AreApart (grouped us pending checkpoints savepoints) → AreGroups pending checkpoints savepoints →
    pending_of (records_of us pending checkpoints savepoints) id ≡ option_map (with_pins us) (find (has_number id) pending)
pending_of-groups id us pending checkpoints savepoints apart groups = let p : Record → Bool = λ r. is_pending r && eqb r.id id in
    find-records_of p id us pending checkpoints savepoints apart (λ r h. eqb-true r.id id (and_parts (is_pending r) (eqb r.id id) h).1)
    ∙ find-append_left p (map (with_pins us) pending) (checkpoints ++ savepoints) (λ r h. and_left (is_pending r) (eqb r.id id) (not_from_true r.done (done_in groups r h)))
    ∙ find-map p (with_pins us) pending ∙ ap (option_map (with_pins us)) (find_agree (λ r. p (with_pins us r)) (has_number id) pending
    (λ r h. ap (λ b. b && eqb r.id id) (not_from_false r.done (groups.not_done r h))))
