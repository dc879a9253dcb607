-- Answers the goals of `count_once`.
use Rattle.ckpt_registry.proofs.{DiffersFromLast, IsFiltered, IsIn-from_in_order_once, IsPermutation, IsSorted, List, [], ascending_set, eqb, ltb, nat_cmp, set-from_dedup, ℕ, ◌++◌, ◌∙◌, ◌≡◌}
use Rattle.ckpt_registry.proofs.pins.count_once.Goals as goal

-- files that were written into empty room, sorted, and kept once
written : (files had all sorted kept : List ℕ) → had ≡ [] → all ≡ had ++ files → IsPermutation all sorted → IsSorted nat_cmp sorted → IsFiltered (DiffersFromLast eqb) [] sorted kept
    → kept ≡ ascending_set files
written files had all sorted kept none is moved s once = set-from_dedup all sorted kept moved s once ∙ rw (is, none)

pub count_reused-requires-clause-present : goal.count_reused-requires-clause-present
count_reused-requires-clause-present c = λ f h.
    let is = c.deref.ensures.value ∙ written c.args.files.now _ _ _ _ c.requires.empty c.write.ensures.items c.sort.ensures.permutation c.sort.ensures.sorted c.dedup.ensures.filtered in
    c.requires.present f (IsIn-from_in_order_once ltb f c.args.files.now (rw (← is) h))

pub count_reused-requires-clause-fits : goal.count_reused-requires-clause-fits
count_reused-requires-clause-fits c = λ f h.
    let is = c.deref.ensures.value ∙ written c.args.files.now _ _ _ _ c.requires.empty c.write.ensures.items c.sort.ensures.permutation c.sort.ensures.sorted c.dedup.ensures.filtered in
    rw is (c.requires.fits f)

pub returns-clause-files : goal.returns-clause-files
returns-clause-files c = written c.args.files.now _ _ _ _ c.requires.empty c.write.ensures.items c.sort.ensures.permutation c.sort.ensures.sorted c.dedup.ensures.filtered

pub returns-clause-counted : goal.returns-clause-counted
returns-clause-counted c = λ f.
    let is = c.deref.ensures.value ∙ written c.args.files.now _ _ _ _ c.requires.empty c.write.ensures.items c.sort.ensures.permutation c.sort.ensures.sorted c.dedup.ensures.filtered in
    rw (← is) (c.count_reused.ensures.counted f)
