-- Answers the goals of `worked_group`: each operation was performed.
use Rattle.relkvanu.proofs.Imports.{◌<◌, ℕ, false, List, [], ◌∷◌, refl, arith, Turn, Committed, Crashed, Looked, Made, world, Answer, IsRoom, AreAsked, Performed, Program, program, acks}
use Rattle.relkvanu.proofs.Imports.{begin, buffer, completed, fresh_choice, last, notes, operations, ticks, triggered}
use Rattle.relkvanu.specs.GroupPrograms.{nothing}
use Rattle.relkvanu.proofs.group.worked_group.Goals as goal

-- after these turns
abbrev at : List Turn → ℕ → ℕ → ℕ → List Answer → Program
at turns waiting told given held =
    record { life = (world begin turns).life; group = record { waiting = waiting; told = told; has_failed = false; given = given }; held = held }

room : (waiting told given : ℕ) → waiting < 2 → given < 4 → IsRoom (record { waiting = waiting; told = told; has_failed = false; given = given }) 2
room waiting told given a b = (refl, a, omega arith)

performed : Performed (program begin buffer) nothing operations last notes
performed = (
  at (Looked ∷ []) 1 0 1 buffer,
  (room 0 0 0 (omega arith) (omega arith), refl),
  (
    at (Looked ∷ Made ticks ∷ []) 2 0 2 (fresh_choice ∷ triggered ∷ []),
    (room 1 0 1 (omega arith) (omega arith), refl),
    (
      at (Looked ∷ Made ticks ∷ Committed ∷ []) 0 2 2 (fresh_choice ∷ triggered ∷ []),
      (refl, refl),
      (
        at (Looked ∷ Made ticks ∷ Committed ∷ Made acks ∷ []) 1 0 3 (completed ∷ triggered ∷ []),
        (room 0 2 2 (omega arith) (omega arith), refl),
        (
          at (Looked ∷ Made ticks ∷ Committed ∷ Made acks ∷ Crashed 0 ∷ []) 0 0 3 buffer,
          (buffer, refl),
          (
            at (Looked ∷ Made ticks ∷ Committed ∷ Made acks ∷ Crashed 0 ∷ Made acks ∷ []) 1 0 4 (completed ∷ fresh_choice ∷ []),
            (room 0 0 3 (omega arith) (omega arith), refl),
            (last, (refl, refl), (refl, refl)),
          ),
        ),
      ),
    ),
  ),
)

are_asked : AreAsked operations
are_asked = (tt, (tt, (tt, tt)))

pub returns : goal.returns
returns c = record {
  performed = performed;
  are_asked = are_asked;
}
