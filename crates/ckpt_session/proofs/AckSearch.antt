-- The search for a subtask among acknowledgements in subtask order.
use Rattle.ckpt_session.proofs.Names.{◌≡◌, ℕ, ◌+◌, ◌<◌, ◌≤◌, length, get_or, Bool, true, false, List, [], ◌∷◌, Result, Ok, Err, sym, ⊎_elim, arith, list_any, IsBinarySearchResult, IsSearchInRange}
use Rattle.ckpt_session.proofs.Names.{IsSortedBy, cases_Bool, cases_lt, SubtaskId, Acked, same_subtask}
use Rattle.std.specs.declared.cmp.Ordering.{Ordering}
use Rattle.std.specs.declared.cmp.Ordering.TheVariants.{Less, Equal, Greater}
use Rattle.std.specs.Ordering.{is_lt, nat_cmp, on, then_cmp}
use Rattle.std.specs.Cmp.{IsTotalOrder}
use Rattle.std.specs.Result.{is_ok}
use Rattle.std.proofs.lemmas.Bool.Decides.{nat_tests}
use Rattle.std.proofs.lemmas.Cmp.{nat_cmp_total, then_total, on_total}
use Rattle.std.proofs.lemmas.List.Folds.{list_any_none}
use Rattle.std.proofs.lemmas.List.Sorted.{searchable_from_sorted}
use Rattle.ckpt_ids.specs.Acknowledged.{is_before, acknowledges_before, AreInSubtaskOrder}
use Rattle.ckpt_ids.proofs.OrderedLemmas.{IsInOrder-at, IsIn-get_or, list_any-from_IsIn}

-- by vertex, then by index, as `Ord` compares
abbrev pub by_subtask : SubtaskId → SubtaskId → Ordering
by_subtask = then_cmp (on (λ s. s.vertex) nat_cmp) (on (λ s. s.index) nat_cmp)

by_subtask-total : IsTotalOrder by_subtask
by_subtask-total = then_total (on_total (λ (s : SubtaskId). s.vertex) nat_cmp_total) (on_total (λ (s : SubtaskId). s.index) nat_cmp_total)

not_less : (s t : SubtaskId) → is_before s t ≡ true → is_lt (by_subtask t s) ≡ false
not_less s t before = grind (arith, nat_tests)

equal : (s t : SubtaskId) → by_subtask t s ≡ Equal → same_subtask s t ≡ true
equal s t same = grind (arith, nat_tests)

equal_to_itself : (s t : SubtaskId) → same_subtask s t ≡ true → by_subtask t s ≡ Equal
equal_to_itself s t same = grind (arith, nat_tests)

abbrev is_of : SubtaskId → Acked → Bool
is_of s a = same_subtask s a.subtask

-- what a binary search returns
pub found_by_search : (acks : List Acked) (s : SubtaskId) (r : Result ℕ ℕ) → AreInSubtaskOrder acks → IsSearchInRange r (length acks) → IsBinarySearchResult (λ a. by_subtask a.subtask s) acks r
    → is_ok r ≡ list_any (λ a. same_subtask s a.subtask) acks
found_by_search [] s (Ok place) order within found = absurd (omega (arith, within))
found_by_search (x ∷ acks) s (Ok place) order within found =
    sym (list_any-from_IsIn (is_of s) (get_or (x ∷ acks) place x) (x ∷ acks) (IsIn-get_or (x ∷ acks) place x within) (equal s (get_or (x ∷ acks) place x).subtask (found x)))
found_by_search acks s (Err place) order within found =
    let sorted : IsSortedBy (λ a b. is_lt (by_subtask a.subtask b.subtask)) acks =
    λ k d from below. not_less (get_or acks k d).subtask (get_or acks (k + 1) d).subtask (IsInOrder-at acknowledges_before acks k (k + 1) d order (omega arith) below) in
    let parts = found (searchable_from_sorted by_subtask-total (λ (a : Acked). a.subtask) acks s sorted) in
    sym (list_any_none (is_of s) acks (λ k d inside.
    ⊎_elim
    (λ (same : is_of s (get_or acks k d) ≡ true).
    let is : by_subtask (get_or acks k d).subtask s ≡ Equal = equal_to_itself s (get_or acks k d).subtask same in
    ⊎_elim
    (λ (before : k < place). let other : by_subtask (get_or acks k d).subtask s ≡ Less = parts.0 k d (omega arith) before in absurd (cc))
    (λ (after : place ≤ k). let other : by_subtask (get_or acks k d).subtask s ≡ Greater = parts.1 k d after inside in absurd (cc))
    (cases_lt k place))
    (λ (other : is_of s (get_or acks k d) ≡ false). other)
    (cases_Bool (is_of s (get_or acks k d)))))
