-- How often a number occurs in a list.
use Rattle.std.specs.Prelude.{ℕ, ◌==◌, Bool, List, count_by, if◌then◌else◌}

abbrev pub times : ℕ → List ℕ → ℕ
times number numbers = count_by (λ x. x == number) numbers

-- a test as a number
abbrev pub one_if : Bool → ℕ
one_if b = if b then 1 else 0
