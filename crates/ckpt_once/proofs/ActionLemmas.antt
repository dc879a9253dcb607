-- Lists of actions that go on.
use Rattle.ckpt_once.proofs.Names.{common_steps, arith, ◌≡◌, ℕ, Bool, true, false, ◌||◌, List, ◌∷◌, ◌++◌, ◌∙◌, refl, sym, ap, subst, if◌then◌else◌, [], append-nil, append_assoc, Alignment}
use Rattle.ckpt_once.proofs.Names.{Item, Action, Reads, GivesUp, Sends, Ends, after, replay, taken, taken_by, sent, sent_by, elements, processed, before_cut, has_cut, has_ended, cut_by}
use Rattle.ckpt_once.proofs.Names.{is_number, elements-append, IsPrefix}

pub replay-append : (a : Alignment) (xs ys : List Action) → replay a (xs ++ ys) ≡ replay (replay a xs) ys
replay-append a [] ys = refl
replay-append a (x ∷ xs) ys = replay-append (after a x) xs ys

pub taken-append : (j : ℕ) (a : Alignment) (xs ys : List Action) → taken j a (xs ++ ys) ≡ taken j a xs ++ taken j (replay a xs) ys
taken-append j a [] ys = refl
taken-append j a (x ∷ xs) ys = ap (λ l. taken_by j a x ++ l) (taken-append j (after a x) xs ys) ∙ sym (append_assoc (taken_by j a x) (taken j (after a x) xs) (taken j (replay (after a x) xs) ys))

pub sent-append : (c : ℕ) (a : Alignment) (xs ys : List Action) → sent c a (xs ++ ys) ≡ sent c a xs ++ sent c (replay a xs) ys
sent-append c a [] ys = refl
sent-append c a (x ∷ xs) ys = ap (λ l. sent_by c a x ++ l) (sent-append c (after a x) xs ys) ∙ sym (append_assoc (sent_by c a x) (sent c (after a x) xs) (sent c (replay (after a x) xs) ys))

-- the record is cut, or the task has ended
abbrev pub stopped : ℕ → Alignment → List Action → Bool
stopped n a xs = has_cut n a xs || has_ended xs

before-append_by : (b c e : Bool) (x : Action) (l m r : List Action) → m ≡ (if c || e then l else r)
    → (if b then [] else x ∷ m) ≡ (if (if b then true else c) || e then (if b then [] else x ∷ l) else x ∷ r)
before-append_by true c e x l m r h = refl
before-append_by false true e x l m r h = ap (λ k. x ∷ k) h
before-append_by false false true x l m r h = ap (λ k. x ∷ k) h
before-append_by false false false x l m r h = ap (λ k. x ∷ k) h

pub before-append : (n : ℕ) (a : Alignment) (xs ys : List Action) → before_cut n a (xs ++ ys) ≡ (if stopped n a xs then before_cut n a xs else xs ++ before_cut n (replay a xs) ys)
before-append n a [] ys = refl
before-append n a (Ends ∷ xs) ys = refl
before-append n a (Reads i item ∷ xs) ys =
    let x : Action = Reads i item in let b : Alignment = after a x in
    before-append_by (is_number n (cut_by a x)) (has_cut n b xs) (has_ended xs) x (before_cut n b xs) (before_cut n b (xs ++ ys)) (xs ++ before_cut n (replay b xs) ys) (before-append n b xs ys)
before-append n a (GivesUp id ∷ xs) ys =
    let x : Action = GivesUp id in let b : Alignment = after a x in
    before-append_by (is_number n (cut_by a x)) (has_cut n b xs) (has_ended xs) x (before_cut n b xs) (before_cut n b (xs ++ ys)) (xs ++ before_cut n (replay b xs) ys) (before-append n b xs ys)
before-append n a (Sends o y ∷ xs) ys =
    let x : Action = Sends o y in let b : Alignment = after a x in
    before-append_by (is_number n (cut_by a x)) (has_cut n b xs) (has_ended xs) x (before_cut n b xs) (before_cut n b (xs ++ ys)) (xs ++ before_cut n (replay b xs) ys) (before-append n b xs ys)

or_step : (b c e r d f : Bool) → (c || e) ≡ ((d || f) || r) → ((if b then true else c) || e) ≡ (((if b then true else d) || f) || r)
or_step true c e r d f h = refl
or_step false c e r d f h = h

pub stopped-append : (n : ℕ) (a : Alignment) (xs ys : List Action) → stopped n a (xs ++ ys) ≡ (stopped n a xs || stopped n (replay a xs) ys)
stopped-append n a [] ys = refl
stopped-append n a (Ends ∷ xs) ys = refl
stopped-append n a (Reads i item ∷ xs) ys =
    let x : Action = Reads i item in let b : Alignment = after a x in
    or_step (is_number n (cut_by a x)) (has_cut n b (xs ++ ys)) (has_ended (xs ++ ys)) (stopped n (replay b xs) ys) (has_cut n b xs) (has_ended xs) (stopped-append n b xs ys)
stopped-append n a (GivesUp id ∷ xs) ys =
    let x : Action = GivesUp id in let b : Alignment = after a x in
    or_step (is_number n (cut_by a x)) (has_cut n b (xs ++ ys)) (has_ended (xs ++ ys)) (stopped n (replay b xs) ys) (has_cut n b xs) (has_ended xs) (stopped-append n b xs ys)
stopped-append n a (Sends o y ∷ xs) ys =
    let x : Action = Sends o y in let b : Alignment = after a x in
    or_step (is_number n (cut_by a x)) (has_cut n b (xs ++ ys)) (has_ended (xs ++ ys)) (stopped n (replay b xs) ys) (has_cut n b xs) (has_ended xs) (stopped-append n b xs ys)

-- a task that has not stopped did all before its cut
pub before_all : (n : ℕ) (a : Alignment) (xs : List Action) → stopped n a xs ≡ false → before_cut n a xs ≡ xs
before_all n a xs e =
    let At : Bool → Type 0 = λ s. before_cut n a (xs ++ []) ≡ (if s then before_cut n a xs else xs ++ []) in
    ap (before_cut n a) (sym (append-nil xs)) ∙ subst At e (before-append n a xs []) ∙ append-nil xs

-- what a stopped task did before its cut stays
pub before_stays : (n : ℕ) (a : Alignment) (xs ys : List Action) → stopped n a xs ≡ true → before_cut n a (xs ++ ys) ≡ before_cut n a xs
before_stays n a xs ys e = grind (arith, common_steps, before-append)

-- what a task did before its cut goes on
before_goes_on_by : (n : ℕ) (a : Alignment) (xs ys : List Action) (s : Bool) → stopped n a xs ≡ s → (more : List Action) × (before_cut n a (xs ++ ys) ≡ before_cut n a xs ++ more)
before_goes_on_by n a xs ys true e = ([], before_stays n a xs ys e ∙ sym (append-nil (before_cut n a xs)))
before_goes_on_by n a xs ys false e =
    let At : Bool → Type 0 = λ s. before_cut n a (xs ++ ys) ≡ (if s then before_cut n a xs else xs ++ before_cut n (replay a xs) ys) in
    (before_cut n (replay a xs) ys, subst At e (before-append n a xs ys) ∙ ap (λ l. l ++ before_cut n (replay a xs) ys) (sym (before_all n a xs e)))

-- and is the beginning of all that it did
before_begins_by : (b : Bool) (x : Action) (l xs : List Action) → (more : List Action) × (xs ≡ l ++ more) → (more : List Action) × (x ∷ xs ≡ (if b then [] else x ∷ l) ++ more)
before_begins_by true x l xs h = (x ∷ xs, refl)
before_begins_by false x l xs h = (h.0, ap (λ k. x ∷ k) h.1)

pub before_begins : (n : ℕ) (a : Alignment) (xs : List Action) → (more : List Action) × (xs ≡ before_cut n a xs ++ more)
before_begins n a [] = ([], refl)
before_begins n a (Ends ∷ xs) = (Ends ∷ xs, refl)
before_begins n a (Reads i item ∷ xs) = let x : Action = Reads i item in before_begins_by (is_number n (cut_by a x)) x (before_cut n (after a x) xs) xs (before_begins n (after a x) xs)
before_begins n a (GivesUp id ∷ xs) = let x : Action = GivesUp id in before_begins_by (is_number n (cut_by a x)) x (before_cut n (after a x) xs) xs (before_begins n (after a x) xs)
before_begins n a (Sends o y ∷ xs) = let x : Action = Sends o y in before_begins_by (is_number n (cut_by a x)) x (before_cut n (after a x) xs) xs (before_begins n (after a x) xs)

-- what was processed is the beginning of what is processed later
processed_begins : (j : ℕ) (a : Alignment) (xs more ys : List Action) → ys ≡ xs ++ more → IsPrefix (processed j a xs) (processed j a ys)
processed_begins j a xs more ys e = (
  elements (taken j (replay a xs) more),
  ap (processed j a) e ∙ ap elements (taken-append j a xs more) ∙ elements-append (taken j a xs) (taken j (replay a xs) more),
)

pub prefix_trans : (xs ys zs : List ℕ) → IsPrefix xs ys → IsPrefix ys zs → IsPrefix xs zs
prefix_trans xs ys zs h k = (h.0 ++ k.0, k.1 ∙ ap (λ l. l ++ k.0) h.1 ∙ append_assoc xs h.0 k.0)

-- At each moment what a receiver has processed before its cut is the beginning of what the sender has sent before its
-- own: if in the end the two are the same, and the channel keeps its order now.
pub cut_in_order : (n j c : ℕ) (a b : Alignment) (xs more : List Action) (ys later : List Action) (way : List Item)
    → processed j b (before_cut n b (ys ++ later)) ≡ elements (sent c a (before_cut n a (xs ++ more)))
    → sent c a xs ≡ taken j b ys ++ way
    → IsPrefix (processed j b (before_cut n b ys)) (elements (sent c a (before_cut n a xs)))
cut_in_order n j c a b xs more ys later way same in_order = either (stopped n a xs) refl
  where
    either : (s : Bool) → stopped n a xs ≡ s → IsPrefix (processed j b (before_cut n b ys)) (elements (sent c a (before_cut n a xs)))
    either true e =
        let on = before_goes_on_by n b ys later (stopped n b ys) refl in
        let part = processed_begins j b (before_cut n b ys) on.0 (before_cut n b (ys ++ later)) on.1 in
        (part.0, ap (λ l. elements (sent c a l)) (sym (before_stays n a xs more e)) ∙ sym same ∙ part.1)
    either false e =
        let on = before_begins n b ys in
        let part = processed_begins j b (before_cut n b ys) on.0 ys on.1 in
        let all : IsPrefix (processed j b ys) (elements (sent c a xs)) = (elements way, ap elements in_order ∙ elements-append (taken j b ys) way) in
        let both = prefix_trans (processed j b (before_cut n b ys)) (processed j b ys) (elements (sent c a xs)) part all in
        (both.0, ap (λ l. elements (sent c a l)) (before_all n a xs e) ∙ both.1)
