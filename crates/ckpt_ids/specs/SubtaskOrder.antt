-- The order of subtasks is strict, and their comparison goes by it. Both are facts that searches among acknowledgements cite.
use Rattle.std.specs.Prelude.{◌≡◌, ℕ, ◌≤◌, Bool, true, false, ◌||◌, ◌&&◌, nat_lt, nat_eq}
use Rattle.std.specs.Ordering.{nat_cmp, ordering_index, ordering_then}
use Rattle.std.specs.declared.cmp.Ordering.{Ordering}
use Rattle.std.specs.declared.cmp.Ordering.TheVariants.{Less, Equal, Greater}
use Rattle.std.proofs.Common.{ap, ◌∙◌, arith}
use Rattle.std.proofs.lemmas.Bool.Decides.{nat_tests}
use Rattle.ckpt_ids.specs.declared.subtask.SubtaskId.{SubtaskId}
use Rattle.ckpt_ids.specs.Acknowledged.{is_before}
use Rattle.ckpt_ids.specs.Ordered.{IsStrictOrder}
use Rattle.ckpt_ids.specs.Places.{IsSearchOrder}

pub same_parts : (s t : SubtaskId) → s.vertex ≡ t.vertex → s.index ≡ t.index → s ≡ t
same_parts s t e h =
    let make : ℕ → ℕ → SubtaskId = λ v i. record { vertex = v; index = i } in
    ap (λ v. make v s.index) e ∙ ap (make t.vertex) h

-- The order and the comparison, from the two vertices a and b and the two indices c and d.

abbrev comes_first : (a b c d : ℕ) → Bool
comes_first a b c d = nat_lt a b || (nat_eq a b && nat_lt c d)

abbrev compared : (a b c d : ℕ) → Ordering
compared a b c d = ordering_then (nat_cmp a b) (nat_cmp c d)

pub subtasks_in_order : IsStrictOrder is_before
subtasks_in_order = record {
  irreflexive = λ s. irreflexive s.vertex s.index;
  transitive = λ s t u h k. transitive s.vertex t.vertex u.vertex s.index t.index u.index h k;
  total = λ s t h k. let parts = total s.vertex t.vertex s.index t.index h k in same_parts s t parts.0 parts.1;
}
  where
    irreflexive : (a b : ℕ) → comes_first a a b b ≡ false
    irreflexive a b = grind (arith, nat_tests)

    transitive : (a b c d e f : ℕ) → comes_first a b d e ≡ true → comes_first b c e f ≡ true → comes_first a c d f ≡ true
    transitive a b c d e f h k = grind (arith, nat_tests)

    total : (a b c d : ℕ) → comes_first a b c d ≡ false → comes_first b a d c ≡ false → (a ≡ b) × (c ≡ d)
    total a b c d h k = (grind (arith, nat_tests), grind (arith, nat_tests))

-- by vertex, then by index
abbrev pub subtask_cmp : SubtaskId → SubtaskId → Ordering
subtask_cmp s t = ordering_then (nat_cmp s.vertex t.vertex) (nat_cmp s.index t.index)

pub subtasks_searched : IsSearchOrder subtask_cmp is_before
subtasks_searched = record {
  less = λ s t h. less s.vertex t.vertex s.index t.index h;
  equal = λ s t h. let parts = equal s.vertex t.vertex s.index t.index h in same_parts s t parts.0 parts.1;
  greater = λ s t h. greater s.vertex t.vertex s.index t.index h;
  rises = λ s t u h. rises s.vertex t.vertex s.index t.index u.vertex u.index h;
}
  where
    less : (a b c d : ℕ) → compared a b c d ≡ Less → comes_first a b c d ≡ true
    less a b c d h = grind (arith, nat_tests)

    equal : (a b c d : ℕ) → compared a b c d ≡ Equal → (a ≡ b) × (c ≡ d)
    equal a b c d h = (grind (arith, nat_tests), grind (arith, nat_tests))

    greater : (a b c d : ℕ) → compared a b c d ≡ Greater → comes_first b a d c ≡ true
    greater a b c d h = grind (arith, nat_tests)

    rises : (a b c d e f : ℕ) → comes_first a b c d ≡ true → ordering_index (compared a e c f) ≤ ordering_index (compared b e d f)
    rises a b c d e f h = grind (arith, nat_tests)
