-- Answers the goals of `WordsIterator::next`.
use Rattle.ckpt_lines.proofs.{ℕ, ◌<◌, length, List, arith, nat_tests, words_of-split, fewer}
use Rattle.ckpt_lines.proofs.words.WordsIterator.next.Goals as goal

first : goal.returns-clause-steps
first c =
    let text : List ℕ = c.without_spaces-text.result.now in let some : 0 < length text = grind (arith, nat_tests) in
    rw (← c.self.view_is, ← c.without_spaces-text.ensures.words, c.split_at.ensures.front, c.split_at.ensures.back, c.word_length.ensures.length)
    (words_of-split text some c.without_spaces-text.ensures.start)

pub returns-clause-steps : goal.returns-clause-steps
returns-clause-steps c = first c

pub returns-clause-goes : goal.returns-clause-goes
returns-clause-goes c = record { on = λ _. (tt, tt, fewer _ _ _ (first c)); keeps = tt; rests = λ _. tt }
