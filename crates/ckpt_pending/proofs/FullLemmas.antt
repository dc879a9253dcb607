-- A record is full exactly if no subtask is missing.
use Rattle.ckpt_pending.proofs.Names.{arith, nat_tests, ◌≡◌, true, not, map, ap, SubtaskId, Acked, IsIn, is_before, acknowledges_before, subtasks, same_subtask, Record, missing, has_acknowledged}
use Rattle.ckpt_pending.proofs.Names.{IsFull, subtasks_in_order, same_subtask-Decides, same_from_members, IsInOrder-map, IsIn-map, IsIn-from_map, IsIn-from_list_any, list_any-from_IsIn, IsPending}
use Rattle.ckpt_pending.proofs.Names.{count_by-none}
use Rattle.ckpt_pending.proofs.SubtaskLemmas.{IsInOrder-subtasks, IsIn-subtasks, none_counted}

-- a subtask of a full record has acknowledged
IsIn-acknowledged : (r : Record) (s : SubtaskId) → has_acknowledged r s ≡ true → IsIn s (map (λ a. a.subtask) r.acks)
IsIn-acknowledged r s h = grind (arith, IsIn-from_list_any (λ (a : Acked). same_subtask s a.subtask) r.acks h, same_subtask-Decides s, IsIn-map (λ (a : Acked). a.subtask))

pub full_from_missing : (r : Record) → IsPending r → missing r ≡ 0 → IsFull r
full_from_missing r p none =
    let forth : (s : SubtaskId) → IsIn s (map (λ a. a.subtask) r.acks) → IsIn s (subtasks r.shape) = λ s h.
    let q = IsIn-from_map (λ (a : Acked). a.subtask) s r.acks h in rw q.2 (IsIn-subtasks r.shape q.0.subtask (p.expected q.0 q.1)) in
    let back : (s : SubtaskId) → IsIn s (subtasks r.shape) → IsIn s (map (λ a. a.subtask) r.acks) = λ s h.
    IsIn-acknowledged r s (grind (arith, nat_tests, none_counted (λ t. not (has_acknowledged r t)) s (subtasks r.shape) none h)) in
    same_from_members subtasks_in_order _ _ (IsInOrder-map acknowledges_before is_before (λ (a : Acked). a.subtask) r.acks (λ x y h. h) p.in_order) (IsInOrder-subtasks r.shape) forth back

-- the converse
pub missing_from_full : (r : Record) → IsFull r → missing r ≡ 0
missing_from_full r full =
    count_by-none (λ s. not (has_acknowledged r s)) (subtasks r.shape) (λ s h.
    let q = IsIn-from_map (λ (a : Acked). a.subtask) s r.acks (rw full h) in
    ap not (list_any-from_IsIn (λ (a : Acked). same_subtask s a.subtask) q.0 r.acks q.1 ((same_subtask-Decides s q.0.subtask).1 q.2)))
