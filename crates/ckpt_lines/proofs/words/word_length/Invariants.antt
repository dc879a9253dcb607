-- The loop invariants of `word_length`.
use Rattle.ckpt_lines.proofs.{◌≡◌, ◌+◌, length, first_length}
use Rattle.ckpt_lines.proofs.words.word_length.Given as goal

abbrev pub invariant-loop-rest : goal.invariant-loop-rest
invariant-loop-rest l = (l.count + first_length l.rest ≡ first_length l.text) × (l.count + length l.rest ≡ length l.text)

abbrev pub decreases-loop-rest : goal.decreases-loop-rest
decreases-loop-rest l = length l.rest
