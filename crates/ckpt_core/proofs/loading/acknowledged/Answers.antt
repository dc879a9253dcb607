-- Answers the goals of `acknowledged`.
use Rattle.ckpt_core.proofs.{◌≡◌, ℕ, ◌+◌, [], ◌∷◌, ◌++◌, List, true, false, cond, take, refl, sym, ap, subst, ◌∙◌, inl, inr, Err, take_more, both_ways, Acked, AreInSubtaskOrder, acknowledges_before}
use Rattle.ckpt_core.proofs.{put_ack, IsIn, Record, acknowledged, is_subtask, IsIn-get_or, pending_record, before_in, take_in_order}
use Rattle.ckpt_core.proofs.{IsIn-from_list_any, has_acknowledged, subtasks_in_order}
use Rattle.ckpt_ids.specs.Acknowledged.{is_before}
use Rattle.ckpt_ids.specs.Shapes.{same_subtask}
use Rattle.ckpt_ids.proofs.OrderLemmas.{same_subtask-Decides}
use Rattle.ckpt_core.proofs.loading.acknowledged.Goals as goal

-- one that is later than all goes last
put_last : (xs : List Acked) (a : Acked) → ((b : Acked) → IsIn b xs → acknowledges_before b a ≡ true) → put_ack a xs ≡ xs ++ a ∷ []
put_last [] a later = refl
put_last (x ∷ xs) a later = ap (λ b. cond b (x ∷ put_ack a xs) (a ∷ x ∷ xs)) (later x (inl refl)) ∙ ap (λ ys. x ∷ ys) (put_last xs a (λ b h. later b (inr h)))

pub returns-in-Err-UnknownSubtask-clause-damaged : goal.returns-in-Err-UnknownSubtask-clause-damaged
returns-in-Err-UnknownSubtask-clause-damaged c = λ e all. let items : List Acked = c.as_slice-acked-items.result.now in let a : Acked = c.acked-item.result in
    let there : IsIn a c.args.metadata.now.acks = rw (← c.as_slice-acked-items.ensures.acks) (rw (sym c.acked-item.is) at (IsIn-get_or items c.loop-acked.acked-index a c.loop-acked-test.true)) in
    let foreign : is_subtask c.loop-acked.pending.shape a.subtask ≡ false = c.ack_metered.ensures.unknown.0 (c.in-Err-UnknownSubtask.is ∙ ap Err c.in-Err-UnknownSubtask.field-0-is) in
    both_ways (is_subtask c.args.metadata.now.shape a.subtask) (ap (λ (r : Record). is_subtask r.shape a.subtask) (sym c.loop-acked.invariant.pending) ∙ foreign) (all a there)

-- in subtask order none comes twice
pub unreachable-requires : goal.unreachable-requires
unreachable-requires c = let m = c.args.metadata.now in let items : List Acked = c.as_slice-acked-items.result.now in let i : ℕ = c.loop-acked.acked-index in let a : Acked = c.acked-item.result in
    let next : take (i + 1) items ≡ take i items ++ a ∷ [] = take_more items i a c.loop-acked-test.true ∙ ap (λ z. take i items ++ z ∷ []) (sym c.acked-item.is) in
    let order : AreInSubtaskOrder items = subst AreInSubtaskOrder (sym c.as_slice-acked-items.ensures.acks) c.as_slice-acked-items.ensures.order in
    let already = (c.ack_metered.ensures.already.0 (c.in-Err-AlreadyAcknowledged.is ∙ ap Err c.in-Err-AlreadyAcknowledged.field-0-is)).1 in
    let before : has_acknowledged (pending_record m.id m.kind m.shape m.started (take i items)) a.subtask ≡ true = ap (λ (r : Record). has_acknowledged r a.subtask) (sym c.loop-acked.invariant.pending) ∙ already in
    let q = IsIn-from_list_any (λ (b : Acked). same_subtask a.subtask b.subtask) (take i items) before in
    let same : a.subtask ≡ q.0.subtask = (same_subtask-Decides a.subtask q.0.subtask).0 q.2 in
    both_ways (is_before a.subtask a.subtask) (subtasks_in_order.irreflexive a.subtask) (ap (λ s. is_before s a.subtask) same
    ∙ before_in (take i items) a q.0 (subst AreInSubtaskOrder next (take_in_order items (i + 1) order)) q.1)

pub loop-acked-preserved : goal.loop-acked-preserved
loop-acked-preserved c = let m = c.args.metadata.now in let items : List Acked = c.as_slice-acked-items.result.now in let i : ℕ = c.loop-acked.acked-index in let a : Acked = c.acked-item.result in
    let make : List Acked → Record = pending_record m.id m.kind m.shape m.started in
    let next : take (i + 1) items ≡ take i items ++ a ∷ [] = take_more items i a c.loop-acked-test.true ∙ ap (λ z. take i items ++ z ∷ []) (sym c.acked-item.is) in
    let order : AreInSubtaskOrder items = subst AreInSubtaskOrder (sym c.as_slice-acked-items.ensures.acks) c.as_slice-acked-items.ensures.order in
    let pending : c.ack_metered.new.self ≡ make (take (i + 1) items) = c.in-Ok.ensures.ok ∙ ap (λ (r : Record). acknowledged r a.subtask c.in_ok-files.files) c.loop-acked.invariant.pending ∙ ap (λ (fs : List ℕ).
    make (put_ack (record { subtask = a.subtask; files = fs }) (take i items))) c.in_ok-files.ensures.value ∙ ap make (put_last (take i items) a
    (λ b h. before_in (take i items) a b (subst AreInSubtaskOrder next (take_in_order items (i + 1) order)) h) ∙ sym next) in
    record { pending = pending; none = c.in-Ok.ensures.none ∙ c.in_ok-files.ensures.none ∙ c.loop-acked.invariant.none }
