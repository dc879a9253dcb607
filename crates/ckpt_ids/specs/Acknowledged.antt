-- Acknowledgements in the order of their subtasks.
use Rattle.std.specs.Prelude.{Bool, ◌&&◌, ◌||◌, nat_lt, nat_eq, ◌==◌, List}
use Rattle.std.specs.Cmp.{IsEquivalence, and_equiv, on_equiv, nat_eq_equiv}
use Rattle.std.specs.Cmp.Lexicographic.{pointwise, lists_equiv}
use Rattle.std.specs.Ordering.{eq_of_both, on}
use Rattle.ckpt_ids.specs.declared.subtask.SubtaskId.{SubtaskId}
use Rattle.ckpt_ids.specs.declared.ack.Acked.{Acked}
use Rattle.ckpt_ids.specs.Ordered.{IsInOrder, put}

-- by vertex, then by index
abbrev pub is_before : SubtaskId → SubtaskId → Bool
is_before s t = nat_lt s.vertex t.vertex || ((s.vertex == t.vertex) && nat_lt s.index t.index)

abbrev pub acknowledges_before : Acked → Acked → Bool
acknowledges_before a b = is_before a.subtask b.subtask

-- at most one acknowledgement of each subtask, in subtask order
abbrev pub AreInSubtaskOrder : List Acked → Type 0
AreInSubtaskOrder = IsInOrder acknowledges_before

-- one acknowledgement more, in subtask order
abbrev pub put_ack : Acked → List Acked → List Acked
put_ack = put acknowledges_before

-- the same subtask with the same files
abbrev pub same_acked : Acked → Acked → Bool
same_acked = eq_of_both (on (λ a. a.subtask) (eq_of_both (on (λ s. s.vertex) nat_eq) (on (λ s. s.index) nat_eq))) (on (λ a. a.files) (pointwise nat_eq))

pub same_acked-equivalence : IsEquivalence same_acked
same_acked-equivalence =
    let same_numbers : IsEquivalence (eq_of_both (on (λ (s : SubtaskId). s.vertex) nat_eq) (on (λ (s : SubtaskId). s.index) nat_eq)) =
    and_equiv (on_equiv (λ (s : SubtaskId). s.vertex) nat_eq_equiv) (on_equiv (λ (s : SubtaskId). s.index) nat_eq_equiv) in
    and_equiv (on_equiv (λ (a : Acked). a.subtask) same_numbers) (on_equiv (λ (a : Acked). a.files) (lists_equiv nat_eq_equiv))
