-- A file's count is at most the number of holders, so far below what a counter holds.
use Rattle.ckpt_core.proofs.Names.{triples, ◌≡◌, ℕ, suc, ◌*◌, ◌<◌, ◌≤◌, Bool, true, false, ltb, eqb, List, [], ◌∷◌, map, length, refl, sym, subst, inl, inr, ⊎_elim, arith, flat_map, length-map}
use Rattle.ckpt_core.proofs.Names.{cases_Bool, both_ways, eqb-true, Acked, SubtaskId, acknowledges_before, IsAscendingSet, IsIn, ComesBefore, IsInOrder, IsStrictOrder, Record, Use, Holder, Subtask}
use Rattle.ckpt_core.proofs.Names.{Pin, uses, uses_of, count, subtasks, ComesBefore-at, IsIn-from_map, IsInOrder-map, in_tail, subtasks_in_order, length-subtasks_from, IsInOrder-subtasks}
use Rattle.ckpt_core.proofs.Names.{IsIn-subtasks, Parts, state_of, AreTied, State, IsSound, IsRecord, count_by-append, count_by_no, count_by_at_most_more, common_steps}
use Rattle.ckpt_ids.specs.Acknowledged.{is_before}
use Rattle.ckpt_core.proofs.Triggering.TriggerParts.{few_live}

-- a list in strict order within another is no longer
later_members : {X : Type 0} {before : X → X → Bool} (o : IsStrictOrder before) (y x z : X) (xs ys : List X) → ComesBefore before y ys → IsIn x ys → ComesBefore before x xs → IsIn z xs →
    IsIn z (y ∷ ys) → IsIn z ys
later_members {X} {before} o y x z xs ys b there a h (inl e) = grind (arith, common_steps, ComesBefore-at, both_ways)
later_members o y x z xs ys b there a h (inr k) = k

pub length-within : {X : Type 0} {before : X → X → Bool} (o : IsStrictOrder before) (xs ys : List X) → IsInOrder before xs → IsInOrder before ys → ((z : X) → IsIn z xs → IsIn z ys) →
    length xs ≤ length ys
length-within o [] ys a b within = omega arith
length-within o (x ∷ xs) [] a b within = absurd (within x (inl refl))
length-within {X} {before} o (x ∷ xs) (y ∷ ys) a b within =
    let Goal : Type 0 = suc (length xs) ≤ suc (length ys) in let same : x ≡ y → Goal = λ (e : x ≡ y). let P : X → Type 0 = λ w. (z : X) → IsIn z xs → IsIn z (w ∷ ys) in
    let from : P x = subst P (sym e) (λ z h. within z (inr h)) in let rest : length xs ≤ length ys = length-within o xs ys a.1 b.1 (λ z h. in_tail o x z xs ys a.0 h (from z h)) in omega arith in
    let later : IsIn x ys → Goal = λ (k : IsIn x ys). let all : (z : X) → IsIn z (x ∷ xs) → IsIn z ys = λ z h. ⊎_elim (λ (e : z ≡ x). let P : X → Type 0 = λ w. IsIn w ys in
    subst P (sym e) k) (λ (j : IsIn z xs). later_members o y x z xs ys b.0 k a.0 j (within z (inr j))) h in omega (arith, length-within o (x ∷ xs) ys a b.1 all) in
    ⊎_elim same later (within x (inl refl))

-- a holder names a file once
count-absent : (id f : ℕ) (h : Holder) (files : List ℕ) → ComesBefore ltb f files → count (triples id h files) f ≡ 0
count-absent id f h [] c = refl
count-absent id f h (g ∷ files) c = grind (arith, common_steps, count-absent id f h files c.1)

count-holder : (id f : ℕ) (h : Holder) (files : List ℕ) → IsAscendingSet files → count (triples id h files) f ≤ 1
count-holder id f h [] a = omega arith
count-holder id f h (g ∷ files) a = let first : Use = record { id = id; holder = h; file = g } in
    ⊎_elim (λ (e : eqb g f ≡ true). omega (arith, count_by_at_most_more (λ u. eqb u.file f) first (triples id h files), count-absent id f h files (rw (eqb-true g f e) at a.0)))
    (λ (e : eqb g f ≡ false). omega (arith, count_by_no (λ u. eqb u.file f) first (triples id h files) e, count-holder id f h files a.1)) (cases_Bool (eqb g f))

count-acks : (id f : ℕ) (acks : List Acked) → ((a : Acked) → IsIn a acks → IsAscendingSet a.files) → count (flat_map (λ a. triples id (Subtask a.subtask) a.files) acks) f ≤ length acks
count-acks id f [] each = omega arith
count-acks id f (a ∷ acks) each = let own : count (triples id (Subtask a.subtask) a.files) f ≤ 1 = count-holder id f (Subtask a.subtask) a.files (each a (inl refl)) in
    let rest : count (flat_map (λ b. triples id (Subtask b.subtask) b.files) acks) f ≤ length acks = count-acks id f acks (λ b h. each b (inr h)) in
    omega (arith, count_by-append (λ (u : Use). eqb u.file f) (triples id (Subtask a.subtask) a.files) (flat_map (λ b. triples id (Subtask b.subtask) b.files) acks))

acks_bound : (r : Record) → IsRecord r → length r.acks ≤ 4096
acks_bound r sound =
    let of : Acked → SubtaskId = λ a. a.subtask in let order : IsInOrder is_before (map of r.acks) = IsInOrder-map acknowledges_before is_before of r.acks (λ a b h. h) sound.acks_in_order in
    let within : (s : SubtaskId) → IsIn s (map of r.acks) → IsIn s (subtasks r.shape) = λ s h. let q = IsIn-from_map of s r.acks h in
    rw q.2 (IsIn-subtasks r.shape q.0.subtask (sound.acks_of_subtasks q.0 q.1)) in
    omega (arith, length-map r.acks of, length-subtasks_from 0 r.shape, length-within subtasks_in_order (map of r.acks) (subtasks r.shape) order (IsInOrder-subtasks r.shape) within)

count-record : (f : ℕ) (r : Record) → IsRecord r → count (uses_of r) f ≤ 4097
count-record f r sound = let acked : count (flat_map (λ a. triples r.id (Subtask a.subtask) a.files) r.acks) f ≤ length r.acks = count-acks r.id f r.acks sound.files in
    let pinned : count (triples r.id Pin r.pins) f ≤ 1 = count-holder r.id f Pin r.pins sound.pins in
    omega (arith, count_by-append (λ (u : Use). eqb u.file f) (flat_map (λ a. triples r.id (Subtask a.subtask) a.files) r.acks) (triples r.id Pin r.pins), acks_bound r sound)

pub count-records : (f : ℕ) (rs : List Record) → ((r : Record) → IsIn r rs → IsRecord r) → count (uses rs) f ≤ 4097 * length rs
count-records f [] each = omega arith
count-records f (r ∷ rs) each = omega (arith, count_by-append (λ (u : Use). eqb u.file f) (uses_of r) (uses rs), count-records f rs (λ q h. each q (inr h)), count-record f r (each r (inl refl)))

-- a counter of 32 bits has room for one use more of each file
pub count_bound : (m : State) → IsSound m → (f : ℕ) → count (uses m.records) f < 4294967295
count_bound m sound f = omega (arith, count-records f m.records sound.records.each, few_live m sound)

pub registry_bound : (p : Parts) → AreTied p → IsSound (state_of p) → (f : ℕ) → count p.registry f < 4294967295
unfolding state_of
registry_bound p tied sound f = rw tied.uses_are (count_bound (state_of p) sound f)
