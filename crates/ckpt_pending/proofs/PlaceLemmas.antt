-- What is found among acknowledgements at the place of a subtask, and what a change there leaves.
use Rattle.ckpt_pending.proofs.Names.{◌≡◌, ℕ, true, false, not, get_or, List, sym, ap, ◌∙◌, Some, find, filter, insert, remove, slice_get-get_or, SubtaskId, Acked, AreInSubtaskOrder, is_before}
use Rattle.ckpt_pending.proofs.Names.{put_ack, BelongsAt, LiesAt, same_subtask, subtasks_in_order, same_subtask-Decides, any_lies, find_lies, insert_belongs, none_belongs, remove_lies, subtask_of}
use Rattle.ckpt_pending.proofs.AckLemmas.{acked}
use Rattle.ckpt_pending.proofs.SubtaskLemmas.{same_subtask-other}

module _ (s : SubtaskId) (acks : List Acked) (place : ℕ) where
  yes : (a : Acked) → a.subtask ≡ s → same_subtask s a.subtask ≡ true
  yes a e = (same_subtask-Decides s a.subtask).1 (sym e)

  no : (a : Acked) → (a.subtask ≡ s → ⊥) → same_subtask s a.subtask ≡ false
  no a ne = same_subtask-other s a.subtask (λ e. ne (sym e))

  pub acked_at : LiesAt subtask_of s acks place → acked acks s ≡ true
  acked_at h = any_lies subtask_of subtasks_in_order s (λ a. same_subtask s a.subtask) yes no acks place h

  pub acked_nowhere : BelongsAt is_before subtask_of s acks place → acked acks s ≡ false
  acked_nowhere h = none_belongs subtask_of subtasks_in_order s (λ a. same_subtask s a.subtask) yes no acks place h

  pub remove_at : AreInSubtaskOrder acks → LiesAt subtask_of s acks place → remove acks place ≡ filter (λ a. not (same_subtask s a.subtask)) acks
  remove_at a h = remove_lies subtask_of subtasks_in_order s (λ a. same_subtask s a.subtask) yes no acks place a h

  -- a look-up of a subtask finds what is at its place
  pub found_at : (one : Acked) → AreInSubtaskOrder acks → LiesAt subtask_of s acks place → one ≡ get_or acks place one → find (λ a. same_subtask s a.subtask) acks ≡ Some one
  found_at one a h is =
      sym (find_lies subtask_of subtasks_in_order s (λ a. same_subtask s a.subtask) yes no acks place a h) ∙ slice_get-get_or acks place one h.0 ∙ ap (λ x. Some x) (sym is)

pub insert_at : (one : Acked) (acks : List Acked) (place : ℕ) → BelongsAt is_before subtask_of one.subtask acks place → insert acks place one ≡ put_ack one acks
insert_at one acks place h = insert_belongs subtask_of subtasks_in_order one acks place h
