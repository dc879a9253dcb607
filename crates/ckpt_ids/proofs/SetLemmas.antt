-- Numbers that were sorted, each kept once.
use Rattle.ckpt_ids.proofs.Names.{common_steps, ◌≡◌, ℕ, suc, ◌<◌, leb, ltb, eqb, List, [], ◌∷◌, sym, ◌∙◌, arith, AllPairs, Contains, dedup, IsPermutation, IsSorted, IsFiltered, DiffersFromLast}
use Rattle.ckpt_ids.proofs.Names.{nat_cmp, dedup_is, AllPairs-from_increasing, Contains-dedup_nat, Contains-from_dedup, Contains-permutation, IsPermutation-sym, IsStrictlyIncreasing-dedup, IsIn}
use Rattle.ckpt_ids.proofs.Names.{IsAscending, IsAscendingSet, ascending, ascending_set}
use Rattle.ckpt_ids.proofs.OrderedLemmas.{ComesBefore-at, ComesBefore-from, IsIn-place, IsIn-get_or, same_from_members, IsInOrder-in_order_once, IsIn-in_order_once, IsIn-from_in_order_once}
use Rattle.ckpt_ids.proofs.AscendingLemmas.{ascending_already, numbers_in_order}

IsIn-contained : (x : ℕ) (xs : List ℕ) → Contains xs x → IsIn x xs
IsIn-contained x xs h = grind (arith, common_steps, IsIn-get_or xs h.0 x h.1)

IsAscendingSet-from_pairs : (xs : List ℕ) → AllPairs (λ x y. x < y) xs → IsAscendingSet xs
IsAscendingSet-from_pairs [] h = tt
IsAscendingSet-from_pairs (x ∷ xs) h = (
  ComesBefore-from ltb x xs (λ y k. let p = IsIn-place y xs k in grind (arith, common_steps, h 0 (suc p.0) y)),
  IsAscendingSet-from_pairs xs (λ i j d a b. h (suc i) (suc j) d (omega arith) (omega arith)),
)

-- what a sort and a `dedup` leave
pub set-from_dedup : (all sorted kept : List ℕ) → IsPermutation all sorted → IsSorted nat_cmp sorted → IsFiltered (DiffersFromLast eqb) [] sorted kept → kept ≡ ascending_set all
set-from_dedup all sorted kept moved s filtered =
    let strict = IsAscendingSet-from_pairs (dedup eqb sorted) (AllPairs-from_increasing (dedup eqb sorted) (IsStrictlyIncreasing-dedup sorted s)) in
    dedup_is eqb sorted kept filtered ∙ same_from_members numbers_in_order (dedup eqb sorted) (ascending_set all) strict (IsInOrder-in_order_once numbers_in_order all)
    (λ z h. IsIn-in_order_once numbers_in_order z all
    (IsIn-contained z all (Contains-permutation sorted all z (IsPermutation-sym all sorted moved) (Contains-from_dedup eqb sorted z (IsIn-place z (dedup eqb sorted) h)))))
    (λ z h. IsIn-contained z (dedup eqb sorted) (Contains-dedup_nat sorted z (Contains-permutation all sorted z moved (IsIn-place z all (IsIn-from_in_order_once ltb z all h)))))

IsAscending-from_set : (xs : List ℕ) → IsAscendingSet xs → IsAscending xs
IsAscending-from_set [] h = tt
IsAscending-from_set (x ∷ xs) h = (ComesBefore-from leb x xs (λ y k. grind (arith, common_steps, ComesBefore-at ltb x y xs h.0 k)), IsAscending-from_set xs h.1)

pub ascending-from_dedup : (all sorted kept : List ℕ) → IsPermutation all sorted → IsSorted nat_cmp sorted → IsFiltered (DiffersFromLast eqb) [] sorted kept → ascending kept ≡ ascending_set all
ascending-from_dedup all sorted kept moved s filtered =
    let is = set-from_dedup all sorted kept moved s filtered in
    sym (ascending_already kept (IsAscending-from_set kept (rw is (IsInOrder-in_order_once numbers_in_order all)))) ∙ is
