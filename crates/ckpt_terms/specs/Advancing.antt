-- An advance: terms and names above all that were told and given out, in this job or in one that it was copied from.
use Rattle.std.specs.Prelude.{◌≡◌, ℕ, ◌<◌, ◌≤◌, max, true, List, [], ◌∷◌, ⊤}
use Rattle.ckpt_terms.specs.{declared.call.FencedCall.FencedCall, declared.call.FencedCall.TheVariants.Advance, declared.call.FencedAnswer.FencedAnswer, TermsImages.fenced_answers}
use Rattle.ckpt_terms.specs.declared.call.FencedAnswer.TheVariants as answer
use Rattle.ckpt_terms.specs.Fencing.{Fenced, fenced_step, fenced_replay, has_ended}

-- an answer that tells a term tells one above this one, and one that gives names gives none below this first one
abbrev pub IsAbove : ℕ → ℕ → FencedAnswer → Type 0
IsAbove term first (answer.Made after its) = term < after
IsAbove term first (answer.Reserved name) = first ≤ name
IsAbove term first its = ⊤

abbrev pub AreAbove : ℕ → ℕ → List FencedAnswer → Type 0
AreAbove term first [] = ⊤
AreAbove term first (its ∷ answers) = IsAbove term first its × AreAbove term first answers

-- answers that tell and give nothing below these floors, and a state that is above them
pub record StaysAbove (top first : ℕ) (answers : List FencedAnswer) (after : Fenced) : Type 0 where
  pub told : AreAbove top first answers
  pub term : top < after.term
  pub names : first ≤ after.next_name

-- From an accepted advance on, each term that is told is above the one that the advance was given and the one that ran before, and
-- each name that is given out is at least the first one that it was given and the next one of before.
abbrev pub AdvancesAll : Fenced → ℕ → ℕ → ℕ → List FencedCall → Type 0
AdvancesAll m now term first calls =
    let advance : FencedCall = Advance now term first in
    has_ended advance (fenced_step m advance).1 ≡ true
    → StaysAbove (max m.term term) (max m.next_name first) (fenced_answers m (advance ∷ calls)) (fenced_replay m (advance ∷ calls))
