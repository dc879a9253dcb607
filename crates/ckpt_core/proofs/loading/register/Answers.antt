-- Answers the goals of `register`.
use Rattle.ckpt_core.proofs.{triples, ◌≡◌, ℕ, ◌+◌, ◌<◌, ◌≤◌, ◌-◌, ◌^◌, ◌++◌, ◌∷◌, [], List, length, take, get_or, refl, sym, ap, subst, ◌∙◌, arith, append-nil, take_more, take_all, on_ok_weaker, Acked}
use Rattle.ckpt_core.proofs.{AreInSubtaskOrder, IsAscendingSet, IsIn, in_order_once, Use, Subtask, Pin, count, use_before, numbers_in_order, AreDistinct-from_order, IsIn-at, uses_of_acks, uses_held}
use Rattle.ckpt_core.proofs.{ack_registered, count_front, in_front, pins_registered, pins_unused, subtask_unused, take_in_order}
use Rattle.ckpt_core.proofs.loading.register.Goals as goal

-- the next of a list comes after those before
next_of : (acks : List Acked) (i : ℕ) (a : Acked) → i < length acks → a ≡ get_or acks i a → take (i + 1) acks ≡ take i acks ++ a ∷ []
next_of acks i a within at = take_more acks i a within ∙ ap (λ z. take i acks ++ z ∷ []) (sym at)

pub loop-acked-init : goal.loop-acked-init
loop-acked-init c = record { registry = sym (append-nil c.args.registry.now); none = refl }

pub hold_files_metered-requires-clause-each_once : goal.hold_files_metered-requires-clause-each_once
hold_files_metered-requires-clause-each_once c = let a : Acked = c.acked-item.result in
    AreDistinct-from_order numbers_in_order a.files
    (c.requires.files a (rw c.as_slice-acked-items.ensures.acks at (IsIn-at c.as_slice-acked-items.result.now c.loop-acked.acked-index a c.loop-acked-test.true c.acked-item.is)))

-- no count is above what it is in the end
below_end : (now old : List Use) (id : ℕ) (acks items : List Acked) (i : ℕ) (pins : List ℕ) (f : ℕ) → now ≡ old ++ uses_of_acks id (take i items) → items ≡ acks →
    count (old ++ uses_held id acks pins) f < 2 ^ 32 - 1 → count now f < 2 ^ 32 - 1
below_end now old id acks items i pins f so_far same below = rw so_far (omega (arith, rw (← same) at below, count_front f old id items i pins))

pub hold_files_metered-requires-clause-below : goal.hold_files_metered-requires-clause-below
hold_files_metered-requires-clause-below c =
    λ f h. below_end c.loop-acked.registry c.args.registry.now c.args.id c.args.acks.now c.as_slice-acked-items.result.now c.loop-acked.acked-index c.args.pins.now f c.loop-acked.invariant.registry
    c.as_slice-acked-items.ensures.acks (c.requires.below f)

pub hold_files_metered-requires-clause-unused : goal.hold_files_metered-requires-clause-unused
hold_files_metered-requires-clause-unused c = let acks : List Acked = c.as_slice-acked-items.result.now in let i : ℕ = c.loop-acked.acked-index in let a : Acked = c.acked-item.result in
    let order : AreInSubtaskOrder acks = subst AreInSubtaskOrder (sym c.as_slice-acked-items.ensures.acks) c.as_slice-acked-items.ensures.order in
    let front : AreInSubtaskOrder (take i acks ++ a ∷ []) = subst AreInSubtaskOrder (next_of acks i a c.loop-acked-test.true c.acked-item.is) (take_in_order acks (i + 1) order) in
    rw c.loop-acked.invariant.registry (subtask_unused c.args.registry.now c.args.id (take i acks) a c.requires.newest front)

pub loop-acked-preserved : goal.loop-acked-preserved
loop-acked-preserved c = let acks : List Acked = c.as_slice-acked-items.result.now in let i : ℕ = c.loop-acked.acked-index in let a : Acked = c.acked-item.result in let id : ℕ = c.args.id in
    let old : List Use = c.args.registry.now in let next : take (i + 1) acks ≡ take i acks ++ a ∷ [] = next_of acks i a c.loop-acked-test.true c.acked-item.is in
    let order : AreInSubtaskOrder acks = subst AreInSubtaskOrder (sym c.as_slice-acked-items.ensures.acks) c.as_slice-acked-items.ensures.order in
    let sets : (b : Acked) → IsIn b (take i acks ++ a ∷ []) → IsAscendingSet b.files = λ b h. let P : List Acked → Type 0 = λ xs. IsIn b xs in
    c.requires.files b (subst P c.as_slice-acked-items.ensures.acks (in_front b acks (i + 1) (subst P (sym next) h))) in
    let registry : c.hold_files_metered.new.self ≡ old ++ uses_of_acks id (take (i + 1) acks) = c.in_ok-hold_files_metered.ensures.ok ∙ ap (λ (us : List Use). in_order_once use_before (us ++ triples id (Subtask a.subtask) a.files)) c.loop-acked.invariant.registry
    ∙ ack_registered old id (take i acks) a c.requires.in_order c.requires.newest (subst AreInSubtaskOrder next (take_in_order acks (i + 1) order)) sets
    ∙ ap (λ (xs : List Acked). old ++ uses_of_acks id xs) (sym next) in
    record { registry = registry; none = c.in_ok-hold_files_metered.ensures.none ∙ c.loop-acked.invariant.none }

-- at the end of the loop all are registered
all_registered : (acks items : List Acked) (i : ℕ) (old now : List Use) (id : ℕ) → items ≡ acks → length items ≤ i → now ≡ old ++ uses_of_acks id (take i items) → now ≡ old ++ uses_of_acks id acks
all_registered acks items i old now id same end e = e ∙ ap (λ (xs : List Acked). old ++ uses_of_acks id xs) (take_all i items end ∙ same)

pub pin_files_metered-requires-clause-below : goal.pin_files_metered-requires-clause-below
pin_files_metered-requires-clause-below c =
    λ f h. below_end c.loop-acked.registry c.args.registry.now c.args.id c.args.acks.now c.as_slice-acked-items.result.now c.loop-acked.acked-index c.args.pins.now f c.loop-acked.invariant.registry
    c.as_slice-acked-items.ensures.acks (c.requires.below f)

pub pin_files_metered-requires-clause-unpinned : goal.pin_files_metered-requires-clause-unpinned
pin_files_metered-requires-clause-unpinned c = rw c.loop-acked.invariant.registry (pins_unused c.args.registry.now c.args.id (take c.loop-acked.acked-index c.as_slice-acked-items.result.now) c.requires.newest)

pub returns-clause-ok : goal.returns-clause-ok
returns-clause-ok c = let id : ℕ = c.args.id in let old : List Use = c.args.registry.now in let acks : List Acked = c.args.acks.now in let pins : List ℕ = c.args.pins.now in
    let now : c.loop-acked.registry ≡ old ++ uses_of_acks id acks =
    all_registered acks c.as_slice-acked-items.result.now c.loop-acked.acked-index old c.loop-acked.registry id c.as_slice-acked-items.ensures.acks c.loop-acked-test.false c.loop-acked.invariant.registry in
    let after : in_order_once use_before (c.loop-acked.registry ++ triples id Pin pins) ≡ old ++ uses_held id acks pins =
    rw (now, pins_registered old id acks pins c.requires.in_order c.requires.newest c.as_slice-acked-items.ensures.order c.requires.files c.requires.pins) in
    on_ok_weaker c.pin_files_metered.result (λ (e : c.pin_files_metered.new.self ≡ in_order_once use_before (c.loop-acked.registry ++ triples id Pin pins)). e ∙ after) c.pin_files_metered.ensures.ok

pub returns-then-is_empty-clause-ok : goal.returns-then-is_empty-clause-ok
returns-then-is_empty-clause-ok c = let id : ℕ = c.args.id in let old : List Use = c.args.registry.now in let acks : List Acked = c.args.acks.now in
    all_registered acks c.as_slice-acked-items.result.now c.loop-acked.acked-index old c.loop-acked.registry id c.as_slice-acked-items.ensures.acks c.loop-acked-test.false c.loop-acked.invariant.registry
    ∙ ap (λ (us : List Use). old ++ us) (sym (append-nil (uses_of_acks id acks))) ∙ ap (λ (fs : List ℕ). old ++ uses_held id acks fs) (sym (c.is_empty.ensures.0 c.if-is_empty.true))
