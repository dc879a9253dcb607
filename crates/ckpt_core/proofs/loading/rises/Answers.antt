-- Answers the goals of `rises`.
use Rattle.ckpt_core.proofs.{◌≡◌, ℕ, Bool, true, false, not, List, sym, ap, subst, ◌∙◌, IsAscending, IsAscendingSet, numbers_in_order, set-from_distinct, AreDistinct-from_order, distinct-from_test}
use Rattle.ckpt_core.proofs.{test-from_distinct}
use Rattle.ckpt_core.proofs.loading.rises.Goals as goal

fails : (b r : Bool) → r ≡ b → not r ≡ true → b ≡ false
fails b true e t = absurd (cc)
fails b false e t = sym e

pub returns : goal.returns
returns c = let xs : List ℕ = c.as_slice.result.now in let set : IsAscending xs = subst IsAscending (sym c.as_slice.ensures.files) c.as_slice.ensures.ascending in (
  λ t. subst IsAscendingSet c.as_slice.ensures.files (set-from_distinct xs set (distinct-from_test xs (fails _ c.repeats.result c.repeats.ensures t))),
  λ s.
      ap not (c.repeats.ensures ∙ test-from_distinct xs (AreDistinct-from_order numbers_in_order xs (subst IsAscendingSet (sym c.as_slice.ensures.files) s))),
)
