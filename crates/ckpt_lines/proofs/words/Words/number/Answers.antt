-- Answers the goals of `Words::number`.
use Rattle.ckpt_lines.proofs.{◌≡◌, ◌<◌, ℕ, ◌-◌, List, length, ap, refl, arith, nat_tests, words_of, number_at-Some, number_at-None, number_at-empty, whole_rest}
use Rattle.ckpt_lines.proofs.words.Words.number.Goals as goal

pub returns-then-is_empty : goal.returns-then-is_empty
returns-then-is_empty c =
    let text : List ℕ = c.without_spaces-text.result.now in let none : length text ≡ 0 = grind (arith, nat_tests) in
    (rw (← c.self.view_is, ← c.without_spaces-text.ensures.words) (number_at-empty text none), refl)

pub returns-in-Some : goal.returns-in-Some
returns-in-Some c =
    let text : List ℕ = c.without_spaces-text.result.now in let some : 0 < length text = grind (arith, nat_tests) in
    rw (← c.self.view_is, ← c.without_spaces-text.ensures.words, ap words_of (whole_rest text c.in-Some.length)) (number_at-Some text _ _ some c.without_spaces-text.ensures.start c.in-Some.ensures)

pub returns-in-None : goal.returns-in-None
returns-in-None c =
    let text : List ℕ = c.without_spaces-text.result.now in let some : 0 < length text = grind (arith, nat_tests) in
    (rw (← c.self.view_is, ← c.without_spaces-text.ensures.words) (number_at-None text some c.without_spaces-text.ensures.start c.in-None.ensures), refl)
