-- The subtasks of a shape: how many there are, which one is at a place, and whether one is there.
use Rattle.ckpt_ids.proofs.Names.{common_steps, ◌≡◌, ℕ, zero, suc, ◌+◌, ◌-◌, ◌<◌, ◌≤◌, Bool, ltb, leb, eqb, List, [], ◌∷◌, ◌++◌, map, sum, length, get_or, refl, ap, ◌∙◌, arith, length-append, ◌&&◌}
use Rattle.ckpt_ids.proofs.Names.{◌||◌, drop, Some, list_any, range_with_len, slice_get, drop_more, sum_by-cons, list_any-append, length-map-range_with_len, get_or-map-range_with_len}
use Rattle.ckpt_ids.proofs.Names.{slice_get-get_or, nat_tests, SubtaskId, subtasks_from, is_subtask, same_subtask}

pub length-subtasks_from : (vertex : ℕ) (shape : List ℕ) → length (subtasks_from vertex shape) ≡ sum shape
length-subtasks_from vertex [] = refl
length-subtasks_from vertex (p ∷ shape) = grind (arith, common_steps, length-subtasks_from (vertex + 1) shape, sum_by-cons (λ x. x) p shape, length-map-range_with_len, length-append)

pub slice_get-append_left : {X : Type 0} (xs ys : List X) (n : ℕ) → n < length xs → slice_get (xs ++ ys) n ≡ slice_get xs n
slice_get-append_left [] ys n h = absurd (omega arith)
slice_get-append_left (x ∷ xs) ys n h = grind (arith, common_steps, slice_get-append_left xs ys)

pub slice_get-append_right : {X : Type 0} (xs ys : List X) (n : ℕ) → slice_get (xs ++ ys) (length xs + n) ≡ slice_get ys n
slice_get-append_right [] ys n = grind (arith, common_steps)
slice_get-append_right (x ∷ xs) ys n = grind (arith, common_steps, slice_get-append_right xs ys n)

-- the subtask at a place among those of the first vertex
pub subtask_here : (vertex p : ℕ) (shape : List ℕ) (place : ℕ) → place < p → slice_get (subtasks_from vertex (p ∷ shape)) place ≡ Some (record { vertex = vertex; index = place })
subtask_here vertex p shape place h =
    let at : ℕ → SubtaskId = λ i. record { vertex = vertex; index = i } in
    let here : List SubtaskId = map at (range_with_len 0 p) in
    grind (arith, common_steps, slice_get-append_left here, slice_get-get_or here place (at 0), length-map-range_with_len at 0 p, get_or-map-range_with_len at 0 p place place (at 0))

-- and among those of the later ones
pub subtask_later : (vertex p : ℕ) (shape : List ℕ) (place : ℕ) → p ≤ place → slice_get (subtasks_from vertex (p ∷ shape)) place ≡ slice_get (subtasks_from (vertex + 1) shape) (place - p)
subtask_later vertex p shape place h =
    let here : List SubtaskId = map (λ i. record { vertex = vertex; index = i }) (range_with_len 0 p) in
    grind (arith, common_steps, slice_get-append_right here (subtasks_from (vertex + 1) shape) (place - p), length-map-range_with_len)

-- whether a number is in a range, with the range moved down by one
range_step : (x n from p : ℕ) (same : Bool) → ((same && eqb x from) || (same && (leb (from + 1) x && ltb x (from + 1 + p)))) ≡ (same && (leb from x && ltb x (from + suc p)))
range_step x n from p same = grind (arith, nat_tests)

-- is a subtask of this vertex there
among_vertex : (s : SubtaskId) (vertex from p : ℕ)
    → list_any (same_subtask s) (map (λ i. record { vertex = vertex; index = i }) (range_with_len from p)) ≡ (eqb s.vertex vertex && (leb from s.index && ltb s.index (from + p)))
among_vertex s vertex from zero = grind (arith, nat_tests)
among_vertex s vertex from (suc p) =
    ap (λ b. same_subtask s (record { vertex = vertex; index = from }) || b) (among_vertex s vertex (from + 1) p)
    ∙ range_step s.index 0 from p (eqb s.vertex vertex)

here_or_later : (vertex x index p : ℕ) (shape : List ℕ)
    → ((eqb x vertex && (leb 0 index && ltb index (0 + p))) || (leb (vertex + 1) x && ltb index (get_or shape (x - (vertex + 1)) 0))) ≡ (leb vertex x && ltb index (get_or (p ∷ shape) (x - vertex) 0))
here_or_later vertex x index p shape = grind (arith, nat_tests, common_steps)

pub is_subtask_from : (s : SubtaskId) (vertex : ℕ) (shape : List ℕ) → list_any (same_subtask s) (subtasks_from vertex shape) ≡ (leb vertex s.vertex && ltb s.index (get_or shape (s.vertex - vertex) 0))
is_subtask_from s vertex [] = grind (arith, nat_tests)
is_subtask_from s vertex (p ∷ shape) =
    let at : ℕ → SubtaskId = λ i. record { vertex = vertex; index = i } in
    rw (list_any-append (same_subtask s) (map at (range_with_len 0 p)) (subtasks_from (vertex + 1) shape), among_vertex s vertex 0 p, is_subtask_from s (vertex + 1) shape)
    (here_or_later vertex s.vertex s.index p shape)

-- what a subtask of a job is: a vertex of it, and an index below its parallelism
pub is_subtask_is : (shape : List ℕ) (s : SubtaskId) → is_subtask shape s ≡ ltb s.index (get_or shape s.vertex 0)
is_subtask_is shape s = grind (arith, common_steps, is_subtask_from s 0 shape)

-- one vertex on, in the search for a place
pub subtask_found : (shape : List ℕ) (vertex left : ℕ) → vertex < length shape → left < get_or shape vertex 0
    → slice_get (subtasks_from vertex (drop vertex shape)) left ≡ Some (record { vertex = vertex; index = left })
subtask_found shape vertex left within h = rw (drop_more shape vertex 0 within) (subtask_here vertex (get_or shape vertex 0) (drop (vertex + 1) shape) left h)

pub subtask_further : (shape : List ℕ) (vertex left : ℕ) → vertex < length shape → get_or shape vertex 0 ≤ left
    → slice_get (subtasks_from vertex (drop vertex shape)) left ≡ slice_get (subtasks_from (vertex + 1) (drop (vertex + 1) shape)) (left - get_or shape vertex 0)
subtask_further shape vertex left within h = rw (drop_more shape vertex 0 within) (subtask_later vertex (get_or shape vertex 0) (drop (vertex + 1) shape) left h)
