-- The orders of holders and uses are strict.
use Rattle.ckpt_ids.proofs.Names.{arith, common_steps, ◌≡◌, ℕ, Bool, true, false, ◌&&◌, ◌||◌, ltb, eqb, refl, Decides, or_from, and_right, Decides-eqb, SubtaskId, IsStrictOrder, same_subtask}
use Rattle.ckpt_ids.proofs.Names.{same_parts, Use, Holder, Subtask, Pin, holder_before, same_holder, use_before}
pub use Rattle.ckpt_ids.specs.SubtaskOrder.{subtasks_in_order}
use Rattle.ckpt_ids.proofs.AscendingLemmas.{numbers_in_order}

-- first by one part, then by another
abbrev by_both : {X A B : Type 0} → (X → A) → (X → B) → (A → A → Bool) → (A → A → Bool) → (B → B → Bool) → X → X → Bool
by_both f g before same behind x y = before (f x) (f y) || (same (f x) (f y) && behind (g x) (g y))

by_both-transitive : {X A B : Type 0} (f : X → A) (g : X → B) (before same : A → A → Bool) (behind : B → B → Bool) → IsStrictOrder before → IsStrictOrder behind
    → ((a b : A) → Decides (same a b) (a ≡ b)) → (x y z : X) → by_both f g before same behind x y ≡ true → by_both f g before same behind y z ≡ true → by_both f g before same behind x z ≡ true
by_both-transitive f g before same behind o p decides x y z xy yz = grind (arith, common_steps, decides, o.transitive, p.transitive)

by_both-total : {X A B : Type 0} (f : X → A) (g : X → B) (before same : A → A → Bool) (behind : B → B → Bool) → IsStrictOrder before → IsStrictOrder behind → ((a b : A) → Decides (same a b) (a ≡ b))
    → (x y : X) → by_both f g before same behind x y ≡ false → by_both f g before same behind y x ≡ false → (f x ≡ f y) × (g x ≡ g y)
by_both-total f g before same behind o p decides x y xy yx = grind (arith, common_steps, decides, o.total, p.total)

by_both-strict : {X A B : Type 0} (f : X → A) (g : X → B) (before same : A → A → Bool) (behind : B → B → Bool) → IsStrictOrder before → IsStrictOrder behind
    → ((a b : A) → Decides (same a b) (a ≡ b)) → ((x y : X) → f x ≡ f y → g x ≡ g y → x ≡ y) → IsStrictOrder (by_both f g before same behind)
by_both-strict f g before same behind o p decides whole = record {
  irreflexive = λ x. or_from (before (f x) (f x)) (same (f x) (f x) && behind (g x) (g x)) (o.irreflexive (f x)) (and_right (same (f x) (f x)) (behind (g x) (g x)) (p.irreflexive (g x)));
  transitive = by_both-transitive f g before same behind o p decides;
  total = λ x y h k. let parts = by_both-total f g before same behind o p decides x y h k in whole x y parts.0 parts.1;
}

pub same_subtask-Decides : (s t : SubtaskId) → Decides (same_subtask s t) (s ≡ t)
same_subtask-Decides s t = grind (arith, common_steps, same_parts, Decides-eqb)

holder-irreflexive : (h : Holder) → holder_before h h ≡ false
holder-irreflexive (Subtask s) = subtasks_in_order.irreflexive s
holder-irreflexive Pin = refl

holder-transitive : (h i j : Holder) → holder_before h i ≡ true → holder_before i j ≡ true → holder_before h j ≡ true
holder-transitive h i j a b = grind (arith, common_steps, subtasks_in_order.transitive)

holder-total : (h i : Holder) → holder_before h i ≡ false → holder_before i h ≡ false → h ≡ i
holder-total h i a b = grind (arith, common_steps, subtasks_in_order.total)

pub holders_in_order : IsStrictOrder holder_before
holders_in_order = record {
  irreflexive = holder-irreflexive;
  transitive = holder-transitive;
  total = holder-total;
}

same_holder-Decides : (h i : Holder) → Decides (same_holder h i) (h ≡ i)
same_holder-Decides h i = grind (arith, common_steps, same_subtask-Decides)

-- a holder with a file
abbrev Held : Type 0
Held = Holder × ℕ

held_in_order : IsStrictOrder (by_both (λ (h : Held). h.0) (λ (h : Held). h.1) holder_before same_holder ltb)
held_in_order = by_both-strict (λ (h : Held). h.0) (λ (h : Held). h.1) holder_before same_holder ltb holders_in_order numbers_in_order same_holder-Decides (λ h i a b. grind (arith, common_steps))

pub uses_in_order : IsStrictOrder use_before
uses_in_order =
    let held : Use → Held = λ u. (u.holder, u.file) in
    by_both-strict (λ (u : Use). u.id) held ltb eqb (by_both (λ (h : Held). h.0) (λ (h : Held). h.1) holder_before same_holder ltb) numbers_in_order held_in_order Decides-eqb
    (λ u v a b. grind (arith, common_steps))
