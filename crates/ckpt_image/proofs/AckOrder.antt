-- Acknowledgements in which the subtask of each comes before that of the next.
use Rattle.ckpt_image.proofs.Names.{◌≡◌, ℕ, zero, suc, ◌<◌, Bool, true, false, ◌&&◌, List, [], ◌∷◌, length, get_or, refl, sym, ap, subst, arith, add-one, and_from, and_parts, and_right, Acked}
use Rattle.ckpt_image.proofs.Names.{AreInSubtaskOrder, acknowledges_before, ComesBefore-at, ComesBefore-from, are_in_subtask_order}
use Rattle.std.specs.List.{IsAllAdjacentAnswer}
use Rattle.ckpt_ids.proofs.OrderLemmas.{subtasks_in_order}

pub in_order-from_test : (acks : List Acked) → are_in_subtask_order acks ≡ true → AreInSubtaskOrder acks
in_order-from_test [] h = tt
in_order-from_test (a ∷ []) h = (tt, tt)
in_order-from_test (a ∷ b ∷ acks) h =
    let parts = and_parts (acknowledges_before a b) (are_in_subtask_order (b ∷ acks)) h in
    let rest : AreInSubtaskOrder (b ∷ acks) = in_order-from_test (b ∷ acks) parts.1 in
    ((parts.0, ComesBefore-from acknowledges_before a acks (λ z k. subtasks_in_order.transitive a.subtask b.subtask z.subtask parts.0 (ComesBefore-at acknowledges_before b z acks rest.0 k))), rest)

passes : (acks : List Acked) → ((k : ℕ) (d : Acked) → suc k < length acks → true ≡ acknowledges_before (get_or acks k d) (get_or acks (suc k) d)) → true ≡ are_in_subtask_order acks
passes [] h = refl
passes (a ∷ []) h = refl
passes (a ∷ b ∷ acks) h = sym (and_from (acknowledges_before a b) (are_in_subtask_order (b ∷ acks)) (sym (h 0 a (omega arith))) (sym (passes (b ∷ acks) (λ k d l. h (suc k) d (omega arith)))))

fails : (acks : List Acked) (k : ℕ) (d : Acked) → suc k < length acks → false ≡ acknowledges_before (get_or acks k d) (get_or acks (suc k) d) → false ≡ are_in_subtask_order acks
fails [] k d l h = absurd (omega arith)
fails (a ∷ []) k d l h = absurd (omega arith)
fails (a ∷ b ∷ acks) zero d l h = ap (λ x. x && are_in_subtask_order (b ∷ acks)) h
fails (a ∷ b ∷ acks) (suc k) d l h = sym (and_right (acknowledges_before a b) (are_in_subtask_order (b ∷ acks)) (sym (fails (b ∷ acks) k d (omega arith) h)))

-- what a comparison of all neighbours says
pub test-from_adjacent : (acks : List Acked) (r : Bool) → IsAllAdjacentAnswer (λ x y b. b ≡ acknowledges_before x y) acks r → r ≡ are_in_subtask_order acks
test-from_adjacent acks true h =
    passes acks (λ k d l. let At : ℕ → Type 0 = λ n. true ≡ acknowledges_before (get_or acks k d) (get_or acks n d) in subst At (add-one k) (h k d (omega arith)))
test-from_adjacent [] false h = absurd (omega (arith, h.1))
test-from_adjacent (a ∷ acks) false h =
    let k : ℕ = h.0 in let At : ℕ → Type 0 = λ n. false ≡ acknowledges_before (get_or (a ∷ acks) k a) (get_or (a ∷ acks) n a) in
    fails (a ∷ acks) k a (omega (arith, h.1)) (subst At (add-one k) (h.2 a))
