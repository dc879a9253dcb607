-- The loop invariants of `without_spaces`.
use Rattle.ckpt_lines.proofs.{◌≡◌, length, words_of}
use Rattle.ckpt_lines.proofs.words.without_spaces.Given as goal

abbrev pub invariant-loop-rest : goal.invariant-loop-rest
invariant-loop-rest l = words_of l.rest ≡ words_of l.text

abbrev pub decreases-loop-rest : goal.decreases-loop-rest
decreases-loop-rest l = length l.rest
