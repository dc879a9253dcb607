-- The subtasks of a shape are in strict order, so each is there once.
use Rattle.ckpt_pending.proofs.Names.{nat_tests, ◌≡◌, ℕ, zero, suc, ◌+◌, ◌≤◌, Bool, true, false, ltb, leb, List, [], ◌∷◌, map, refl, sym, ap, ◌∙◌, ⊎_elim, arith, count_by, range_with_len, cases_Bool}
use Rattle.ckpt_pending.proofs.Names.{or_left, and_parts, lt-ltb, leb-true, SubtaskId, IsIn, IsInOrder, is_before, subtasks, subtasks_from, is_subtask, same_subtask, count_by_yes, count_by_no}
use Rattle.ckpt_pending.proofs.Names.{count_by-same, counted-from_IsIn, subtasks_in_order, same_subtask-Decides, ComesBefore-from, ComesBefore-at, IsInOrder-append, IsInOrder-map, IsIn-from_map}
use Rattle.ckpt_pending.proofs.Names.{IsIn-from_list_any, list_any-from_IsIn, is_subtask_from}

range_from : (from n x : ℕ) → IsIn x (range_with_len from n) → from ≤ x
range_from from zero x h = absurd h
range_from from (suc n) x h = grind (arith, range_from (from + 1) n x)

range_in_order : (from n : ℕ) → IsInOrder ltb (range_with_len from n)
range_in_order from zero = tt
range_in_order from (suc n) = (ComesBefore-from ltb from (range_with_len (from + 1) n) (λ y h. lt-ltb from y (omega (arith, range_from (from + 1) n y h))), range_in_order (from + 1) n)

pub same_subtask-itself : (s : SubtaskId) → same_subtask s s ≡ true
same_subtask-itself s = (same_subtask-Decides s s).1 refl

pub same_subtask-other : (s t : SubtaskId) → (s ≡ t → ⊥) → same_subtask s t ≡ false
same_subtask-other s t ne = grind (arith, same_subtask-Decides s t)

vertex_from : (s : SubtaskId) (vertex : ℕ) (shape : List ℕ) → IsIn s (subtasks_from vertex shape) → vertex ≤ s.vertex
vertex_from s vertex shape h =
    leb-true vertex s.vertex (and_parts (leb vertex s.vertex) _ (sym (is_subtask_from s vertex shape) ∙ list_any-from_IsIn (same_subtask s) s (subtasks_from vertex shape) h (same_subtask-itself s))).0

subtasks_from_in_order : (vertex : ℕ) (shape : List ℕ) → IsInOrder is_before (subtasks_from vertex shape)
subtasks_from_in_order vertex [] = tt
subtasks_from_in_order vertex (p ∷ shape) =
    let at : ℕ → SubtaskId = λ i. record { vertex = vertex; index = i } in
    let here : IsInOrder is_before (map at (range_with_len 0 p)) = IsInOrder-map ltb is_before at (range_with_len 0 p) (λ x y h. grind (arith, nat_tests)) (range_in_order 0 p) in
    let apart : (s t : SubtaskId) → IsIn s (map at (range_with_len 0 p)) → IsIn t (subtasks_from (vertex + 1) shape) → is_before s t ≡ true = λ s t a b.
    let q = IsIn-from_map at s (range_with_len 0 p) a in
    or_left (ltb s.vertex t.vertex) _ (lt-ltb s.vertex t.vertex (omega (arith, ap (λ w. w.vertex) q.2, vertex_from t (vertex + 1) shape b))) in
    IsInOrder-append is_before (map at (range_with_len 0 p)) (subtasks_from (vertex + 1) shape) here (subtasks_from_in_order (vertex + 1) shape) apart

-- the subtasks of a shape are in strict order
pub IsInOrder-subtasks : (shape : List ℕ) → IsInOrder is_before (subtasks shape)
IsInOrder-subtasks shape = subtasks_from_in_order 0 shape

pub IsIn-subtasks : (shape : List ℕ) (s : SubtaskId) → is_subtask shape s ≡ true → IsIn s (subtasks shape)
IsIn-subtasks shape s h = let q = IsIn-from_list_any (same_subtask s) (subtasks shape) h in rw ((same_subtask-Decides s q.0).0 q.2) q.1

pub is_subtask-from_IsIn : (shape : List ℕ) (s : SubtaskId) → IsIn s (subtasks shape) → is_subtask shape s ≡ true
is_subtask-from_IsIn shape s h = list_any-from_IsIn (same_subtask s) s (subtasks shape) h (same_subtask-itself s)

-- counting in a list in strict order

-- q counts s no more, and else what p counts
pub count_by_one_more : (p q : SubtaskId → Bool) (s : SubtaskId) (xs : List SubtaskId) → IsInOrder is_before xs → IsIn s xs → p s ≡ true → q s ≡ false → ((t : SubtaskId) → (t ≡ s → ⊥) → q t ≡ p t)
    → count_by q xs + 1 ≡ count_by p xs
count_by_one_more p q s [] a h ps qs f = absurd h
count_by_one_more p q s (x ∷ xs) a h ps qs f =
    let rest = count_by_one_more p q s xs a.1 in
    grind (arith, subtasks_in_order.irreflexive, ComesBefore-at is_before x, count_by-same q p xs, count_by_yes, count_by_no, rest) steps 1000000

-- what is counted nowhere
pub none_counted : {X : Type 0} (p : X → Bool) (x : X) (xs : List X) → count_by p xs ≡ 0 → IsIn x xs → p x ≡ false
none_counted p x xs e h = ⊎_elim (λ t. absurd (omega (arith, counted-from_IsIn p x xs h t))) (λ t. t) (cases_Bool (p x))
