-- In order, acknowledgements have at most one of each subtask.
use Rattle.ckpt_model.proofs.Names.{◌≡◌, Bool, true, false, List, [], ◌∷◌, map, refl, sym, ap, ◌∙◌, ⊎_elim, both_ways, cases_Bool, list_any, count_by-none, count_by_no, count_by_yes, same_subtask-Decides}
use Rattle.ckpt_model.proofs.Names.{subtasks_in_order, ComesBefore-at, AreInSubtaskOrder, acknowledges_before, is_before, one_if, ComesBefore, IsIn, same_subtask, Acked, SubtaskId, times_of}

-- after an acknowledgement of s there is no other of s
later_differs : (s : SubtaskId) (x a : Acked) (xs : List Acked) → ComesBefore acknowledges_before x xs → IsIn a xs → same_subtask s x.subtask ≡ true → same_subtask s a.subtask ≡ false
later_differs s x a xs first h same =
    ⊎_elim
    (λ (e : same_subtask s a.subtask ≡ true).
    let is : x.subtask ≡ a.subtask = sym ((same_subtask-Decides s x.subtask).0 same) ∙ (same_subtask-Decides s a.subtask).0 e in
    absurd (both_ways (is_before a.subtask a.subtask) (subtasks_in_order.irreflexive a.subtask) (ap (λ t. is_before t a.subtask) (sym is) ∙ ComesBefore-at acknowledges_before x a xs first h)))
    (λ e. e)
    (cases_Bool (same_subtask s a.subtask))

pub times_of-in_order : (s : SubtaskId) (acks : List Acked) → AreInSubtaskOrder acks → times_of s acks ≡ one_if (list_any (same_subtask s) (map (λ a. a.subtask) acks))
times_of-in_order s [] o = refl
times_of-in_order s (a ∷ acks) o =
    let is_its : Acked → Bool = λ b. same_subtask s b.subtask in
    ⊎_elim (λ (e : is_its a ≡ true). count_by_yes is_its a acks e ∙ rw (count_by-none is_its acks (λ b h. later_differs s a b acks o.0 h e), e))
    (λ (e : is_its a ≡ false). count_by_no is_its a acks e ∙ rw e (times_of-in_order s acks o.1)) (cases_Bool (is_its a))
