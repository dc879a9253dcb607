-- A record with one acknowledgement more, and a record that has all of them.
use Rattle.ckpt_model.proofs.Names.{◌≡◌, ℕ, true, false, ltb, eqb, List, [], ◌∷◌, sym, ap, subst, ◌∙◌, ⊎_elim, arith, cases_Bool, both_ways, SubtaskId, Acked, IsIn, AreDistinct, acknowledges_before}
use Rattle.ckpt_model.proofs.Names.{put_ack, AreInSubtaskOrder, IsAscendingSet, ascending, Record, missing, has_acknowledged, acknowledged, is_subtask, same_subtask, numbers_in_order}
use Rattle.ckpt_model.proofs.Names.{subtasks_in_order, same_subtask-Decides, IsIn-put_cases, IsInOrder-put, IsInOrder-put_between, IsIn-from_in_order, list_any-from_IsIn, IsRecord, full_from_missing}
use Rattle.ckpt_model.proofs.Names.{common_steps}

-- a subtask that has not acknowledged is that of no acknowledgement
pub new_subtask : (r : Record) (s : SubtaskId) (a : Acked) → has_acknowledged r s ≡ false → IsIn a r.acks → s ≡ a.subtask → ⊥
new_subtask r s a none h e = both_ways (has_acknowledged r s) none (list_any-from_IsIn (λ (b : Acked). same_subtask s b.subtask) a r.acks h ((same_subtask-Decides s a.subtask).1 e))

-- one acknowledgement more, of a new subtask, in its place
pub in_order-acknowledged : (r : Record) (a : Acked) → has_acknowledged r a.subtask ≡ false → AreInSubtaskOrder r.acks → AreInSubtaskOrder (put_ack a r.acks)
in_order-acknowledged r a none order =
    IsInOrder-put_between acknowledges_before (λ x y z h k. subtasks_in_order.transitive x.subtask y.subtask z.subtask h k) a r.acks
    (λ y h e. grind (arith, common_steps, new_subtask r a.subtask y none h, subtasks_in_order.total a.subtask y.subtask, cases_Bool)) order

-- numbers without repeats, in ascending order
pub ascending-distinct : (xs : List ℕ) → AreDistinct xs → IsAscendingSet (ascending xs)
ascending-distinct [] d = tt
ascending-distinct (x ∷ xs) d = IsInOrder-put numbers_in_order x (ascending xs) (λ h. d.0 (IsIn-from_in_order ltb x xs h)) (ascending-distinct xs d.1)

-- what holds of a record with one acknowledgement more, apart from what depends on whether it is done
pub record IsAcknowledged (r : Record) : Type 0 where
  pub acks_in_order : AreInSubtaskOrder r.acks
  pub acks_of_subtasks : (a : Acked) → IsIn a r.acks → is_subtask r.shape a.subtask ≡ true
  pub files : (a : Acked) → IsIn a r.acks → IsAscendingSet a.files

-- an acknowledgement more, of a subtask that lacks it, with ascending files
pub acknowledged_is : (r : Record) (s : SubtaskId) (files : List ℕ) → IsRecord r → is_subtask r.shape s ≡ true → has_acknowledged r s ≡ false → IsAscendingSet files
    → IsAcknowledged (acknowledged r s files)
acknowledged_is r s files i of_shape none up =
    let a : Acked = record { subtask = s; files = files } in
    record {
      acks_in_order = in_order-acknowledged r a none i.acks_in_order;
      acks_of_subtasks = λ b h. ⊎_elim (λ (e : b ≡ a). ap (λ x. is_subtask r.shape x.subtask) e ∙ of_shape) (i.acks_of_subtasks b) (IsIn-put_cases acknowledges_before a b r.acks h);
      files = λ b h. let P : Acked → Type 0 = λ x. IsAscendingSet x.files in ⊎_elim (λ (e : b ≡ a). subst P (sym e) up) (i.files b) (IsIn-put_cases acknowledges_before a b r.acks h);
    }

-- still pending
pub acknowledged_pending : (r : Record) (s : SubtaskId) (files : List ℕ) → IsRecord r → r.done ≡ false → IsAcknowledged (acknowledged r s files) → eqb (missing (acknowledged r s files)) 0 ≡ false
    → IsRecord (acknowledged r s files)
acknowledged_pending r s files i pending a lacks = grind (arith, common_steps)

-- done, with no pins
pub completed_is : (r : Record) → IsRecord r → (a : Record) → a.shape ≡ r.shape → IsAcknowledged a → missing a ≡ 0 → IsRecord (record a { done = true; pins = [] })
completed_is r i a same k none = grind (arith, common_steps, full_from_missing (record a { done = false; pins = [] }) (grind (arith, common_steps)) none)
