-- Answers the goals of `Files::of`.
use Rattle.ckpt_ids.proofs.Names.{subst, MatchBool-at_true, non_decreasing_from_is_sorted, IsAscending}
use Rattle.ckpt_ids.proofs.AscendingLemmas.{IsAscending-from_non_decreasing, IsAscending-from_sorted, ascending-from_sort, ascending_already}
use Rattle.ckpt_ids.proofs.files.Files.of.Goals as goal
use Rattle.ckpt_ids.proofs.files.Files.of.Goals.{then-not-is_sorted, else-not-is_sorted}

pub invariant_of-result : goal.invariant_of-result
invariant_of-result c =
    elim c.if-not-is_sorted.branch [
      | then-not-is_sorted w ↦ rw w.numbers-is (IsAscending-from_sorted w.sort_unstable.new.self.items w.sort_unstable.ensures.sorted)
      | else-not-is_sorted w ↦
          let up = MatchBool-at_true _ _ w.if-not-is_sorted.false (non_decreasing_from_is_sorted c.deref.result.now c.is_sorted.result c.is_sorted.ensures.cases) in
          rw w.numbers-is (subst IsAscending c.deref.ensures.value (IsAscending-from_non_decreasing c.deref.result.now up))
    ]

pub returns : goal.returns
returns c =
    elim c.if-not-is_sorted.branch [
      | then-not-is_sorted w ↦ rw w.numbers-is (ascending-from_sort c.args.numbers.items w.sort_unstable.new.self.items w.sort_unstable.ensures.permutation w.sort_unstable.ensures.sorted)
      | else-not-is_sorted w ↦
          let up = MatchBool-at_true _ _ w.if-not-is_sorted.false (non_decreasing_from_is_sorted c.deref.result.now c.is_sorted.result c.is_sorted.ensures.cases) in
          rw w.numbers-is (ascending_already c.args.numbers.items (subst IsAscending c.deref.ensures.value (IsAscending-from_non_decreasing c.deref.result.now up)))
    ]
