-- Putting two acknowledgements into one record, in either order.
use Rattle.ckpt_model.proofs.Names.{◌≡◌, ℕ, ◌+◌, Bool, true, false, ◌&&◌, eqb, List, [], ◌∷◌, sym, ◌∙◌, find, Some, cases_Bool, both_ways, not_from_true, not_from_false, and_parts, and_from}
use Rattle.ckpt_model.proofs.Names.{cond-true, cond-false, eqb-true, eq-eqb, SubtaskId, Acked, IsIn, IsInOrder, put, acknowledges_before, put_ack, Record, missing, has_acknowledged, acknowledged}
use Rattle.ckpt_model.proofs.Names.{is_subtask, subtasks_in_order, same_subtask-Decides, IsIn-map, IsIn-from_map, IsIn-put, IsIn-put_itself, IsIn-put_cases, IsIn-from_list_any, list_any-from_IsIn}
use Rattle.ckpt_model.proofs.Names.{is_pending, pending_of, replaced, id_before, count_by_one_more, IsInOrder-subtasks, IsIn-subtasks, same_subtask-itself, common_steps, arith}
use Rattle.ckpt_model.proofs.Records.{IsIn-from_find, put_in, IsReplacing, put_in_replaces}

-- two elements, one before the other, go into a list in either order
pub put_commutes : {X : Type 0} (before : X → X → Bool) (x y : X) (zs : List X) → ((a b c : X) → before a b ≡ true → before b c ≡ true → before a c ≡ true) → before x y ≡ true → before y x ≡ false
    → put before x (put before y zs) ≡ put before y (put before x zs)
put_commutes {X} before x y [] chain xy yx = grind (arith, common_steps, cond-false, cond-true)
put_commutes {X} before x y (z ∷ zs) chain xy yx = grind (arith, common_steps, cond-true, cond-false, chain, both_ways, cases_Bool, put_commutes before x y zs chain xy yx)

-- acknowledgements of two subtasks go into a list in either order
pub acks_commute : (a b : Acked) (acks : List Acked) → (a.subtask ≡ b.subtask → ⊥) → put_ack a (put_ack b acks) ≡ put_ack b (put_ack a acks)
acks_commute a b acks ne = grind (arith, common_steps, both_ways, cases_Bool, put_commutes acknowledges_before, subtasks_in_order.transitive, subtasks_in_order.total, ne)

-- whether a subtask has acknowledged, after one acknowledgement more

-- the new one
pub has_its_own : (r : Record) (s : SubtaskId) (files : List ℕ) → has_acknowledged (acknowledged r s files) s ≡ true
has_its_own r s files = grind (arith, common_steps, IsIn-put_itself, list_any-from_IsIn, same_subtask-itself)

-- each that was there
pub has_still : (r : Record) (s t : SubtaskId) (files : List ℕ) → has_acknowledged r t ≡ true → has_acknowledged (acknowledged r s files) t ≡ true
has_still r s t files h = grind (arith, common_steps, IsIn-from_list_any, IsIn-put, list_any-from_IsIn)

-- and no other
pub had_before : (r : Record) (s t : SubtaskId) (files : List ℕ) → (t ≡ s → ⊥) → has_acknowledged (acknowledged r s files) t ≡ true → has_acknowledged r t ≡ true
had_before r s t files ne h = grind (arith, common_steps, IsIn-from_list_any, IsIn-put_cases, list_any-from_IsIn, same_subtask-Decides)

-- what lacks after lacked before
pub has_not_before : (r : Record) (s t : SubtaskId) (files : List ℕ) → has_acknowledged (acknowledged r s files) t ≡ false → has_acknowledged r t ≡ false
has_not_before r s t files e = grind (arith, common_steps, has_still r s t files)

-- and what lacked before lacks after, but for the new one
pub has_not_after : (r : Record) (s t : SubtaskId) (files : List ℕ) → (t ≡ s → ⊥) → has_acknowledged r t ≡ false → has_acknowledged (acknowledged r s files) t ≡ false
has_not_after r s t files ne e = grind (arith, common_steps, had_before r s t files ne, cases_Bool, both_ways)

-- of any other subtask nothing changes
pub has_same : (r : Record) (s t : SubtaskId) (files : List ℕ) → (t ≡ s → ⊥) → has_acknowledged (acknowledged r s files) t ≡ has_acknowledged r t
has_same r s t files ne = grind (arith, common_steps, cases_Bool, has_not_after, has_still)

-- one less is missing
pub missing_one_less : (r : Record) (s : SubtaskId) (files : List ℕ) → is_subtask r.shape s ≡ true → has_acknowledged r s ≡ false → missing (acknowledged r s files) + 1 ≡ missing r
missing_one_less r s files of_shape none = grind (arith, common_steps, IsIn-subtasks, IsInOrder-subtasks, count_by_one_more, has_its_own, has_same, not_from_false, not_from_true)

-- the records, with one replaced twice

-- the second counts
pub replaced_twice : (v w : Record) (rs : List Record) → w.id ≡ v.id → replaced (replaced rs w) v ≡ replaced rs v
replaced_twice v w [] same = grind (arith, common_steps)
replaced_twice v w (x ∷ rs) same = grind (arith, common_steps, replaced_twice v w rs same)

-- what `find` finds if only one element passes
pub find-only : {X : Type 0} (p : X → Bool) (x : X) (xs : List X) → IsIn x xs → p x ≡ true → ((y : X) → IsIn y xs → p y ≡ true → y ≡ x) → find p xs ≡ Some x
find-only p x [] h t only = grind (arith, common_steps)
find-only {X} p x (y ∷ xs) h t only = grind (arith, common_steps, find-only p x xs)

-- the pending record of a number, after it was replaced
pub pending_of_replaced : (rs : List Record) (id : ℕ) (q w : Record) → IsInOrder id_before rs → pending_of rs id ≡ Some q → w.id ≡ q.id → w.done ≡ false → pending_of (replaced rs w) id ≡ Some w
pending_of_replaced rs id q w order e same pending =
    let test : Record → Bool = λ r. is_pending r && eqb r.id id in
    let found = IsIn-from_find test q rs e in
    let p : IsReplacing (put_in w) q w rs = put_in_replaces q w rs order found.0 same in
    let its_id : q.id ≡ id = eqb-true q.id id (and_parts (is_pending q) (eqb q.id id) found.1).1 in
    let passes : test w ≡ true = and_from (is_pending w) (eqb w.id id) (not_from_false w.done pending) (eq-eqb w.id id (same ∙ its_id)) in
    grind (arith, common_steps, put_in, IsIn-map, IsIn-from_map, eqb-true, and_parts, p.cases, find-only)
  where
    put_in_itself : (w q : Record) → w.id ≡ q.id → put_in w q ≡ w
    put_in_itself w q same = cond-true (eqb q.id w.id) w q (eq-eqb q.id w.id (sym same))
