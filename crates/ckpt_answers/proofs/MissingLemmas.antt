-- Each subtask of a shape is missing, or one acknowledgement comes from it.
use Rattle.ckpt_answers.proofs.Names.{◌≡◌, ℕ, ◌+◌, Bool, true, false, ◌||◌, List, [], ◌∷◌, length, refl, sym, ap, ◌∙◌, ⊎_elim, arith, count_by, not, cases_Bool, both_ways, length-filter, Acked}
use Rattle.ckpt_answers.proofs.Names.{Metadata, is_subtask, same_subtask, subtasks, missing, missing_subtasks}
use Rattle.std.specs.List.{list_any}
use Rattle.ckpt_ids.specs.declared.subtask.SubtaskId.{SubtaskId}
use Rattle.ckpt_ids.specs.Acknowledged.{acknowledges_before, is_before, AreInSubtaskOrder}
use Rattle.ckpt_ids.proofs.CountLemmas.{count_by-all, count_by_no, count_by_yes, count_by-same}
use Rattle.ckpt_ids.proofs.OrderLemmas.{subtasks_in_order, same_subtask-Decides}
use Rattle.ckpt_ids.proofs.OrderedLemmas.{ComesBefore-at, IsIn-from_list_any}
use Rattle.ckpt_pending.proofs.SubtaskLemmas.{IsIn-subtasks, IsInOrder-subtasks, count_by_one_more, is_subtask-from_IsIn, same_subtask-itself, same_subtask-other}

abbrev is_acked : List Acked → SubtaskId → Bool
is_acked acks s = list_any (λ a. same_subtask s a.subtask) acks

abbrev is_missing : List Acked → SubtaskId → Bool
is_missing acks s = not (is_acked acks s)

-- no later acknowledgement comes from the first one's subtask
acked_once : (a : Acked) (acks : List Acked) → AreInSubtaskOrder (a ∷ acks) → is_acked acks a.subtask ≡ false
acked_once a acks order = ⊎_elim twice (λ (h : is_acked acks a.subtask ≡ false). h) (cases_Bool (is_acked acks a.subtask))
  where
    twice : is_acked acks a.subtask ≡ true → is_acked acks a.subtask ≡ false
    twice h =
        let q = IsIn-from_list_any (λ (b : Acked). same_subtask a.subtask b.subtask) acks h in
        let same : a.subtask ≡ q.0.subtask = (same_subtask-Decides a.subtask q.0.subtask).0 q.2 in
        let later : is_before a.subtask q.0.subtask ≡ true = ComesBefore-at acknowledges_before a q.0 acks order.0 q.1 in
        absurd (both_ways (is_before a.subtask a.subtask) (subtasks_in_order.irreflexive a.subtask) (ap (is_before a.subtask) same ∙ later))

pub acknowledged_and_missing : (shape : List ℕ) (acks : List Acked) → AreInSubtaskOrder acks
    → count_by (λ a. is_subtask shape a.subtask) acks + count_by (is_missing acks) (subtasks shape) ≡ length (subtasks shape)
acknowledged_and_missing shape [] order =
    let all : count_by (is_missing []) (subtasks shape) ≡ length (subtasks shape) = count_by-all (is_missing []) (subtasks shape) (λ s h. refl) in
    omega (arith, all)
acknowledged_and_missing shape (a ∷ acks) order =
    let rest : count_by (λ b. is_subtask shape b.subtask) acks + count_by (is_missing acks) (subtasks shape) ≡ length (subtasks shape) = acknowledged_and_missing shape acks order.1 in
    let others : (t : SubtaskId) → (t ≡ a.subtask → ⊥) → is_missing (a ∷ acks) t ≡ is_missing acks t = λ t ne. ap (λ b. not (b || is_acked acks t)) (same_subtask-other t a.subtask ne) in
    let counts : Acked → Bool = λ b. is_subtask shape b.subtask in
    ⊎_elim
    (λ (h : is_subtask shape a.subtask ≡ true).
    let was : is_missing acks a.subtask ≡ true = ap not (acked_once a acks order) in
    let is : is_missing (a ∷ acks) a.subtask ≡ false = ap (λ b. not (b || is_acked acks a.subtask)) (same_subtask-itself a.subtask) in
    let less : count_by (is_missing (a ∷ acks)) (subtasks shape) + 1 ≡ count_by (is_missing acks) (subtasks shape) =
    count_by_one_more (is_missing acks) (is_missing (a ∷ acks)) a.subtask (subtasks shape) (IsInOrder-subtasks shape) (IsIn-subtasks shape a.subtask h) was is others in
    omega (arith, count_by_yes counts a acks h))
    (λ (h : is_subtask shape a.subtask ≡ false).
    let same : count_by (is_missing (a ∷ acks)) (subtasks shape) ≡ count_by (is_missing acks) (subtasks shape) =
    count_by-same (is_missing (a ∷ acks)) (is_missing acks) (subtasks shape)
    (λ t there. others t (λ e. both_ways (is_subtask shape a.subtask) h (ap (is_subtask shape) (sym e) ∙ is_subtask-from_IsIn shape t there))) in
    omega (arith, count_by_no counts a acks h))
    (cases_Bool (is_subtask shape a.subtask))

pub missing-counted : (m : Metadata) → AreInSubtaskOrder m.acks → count_by (λ a. is_subtask m.shape a.subtask) m.acks + missing m ≡ length (subtasks m.shape)
unfolding missing_subtasks
missing-counted m order =
    let counted : missing m ≡ count_by (is_missing m.acks) (subtasks m.shape) = length-filter (is_missing m.acks) (subtasks m.shape) in
    omega (arith, acknowledged_and_missing m.shape m.acks order)
