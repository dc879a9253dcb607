-- The loop invariants of `first_number`.
use Rattle.ckpt_lines.proofs.{◌-◌, Short}
use Rattle.ckpt_lines.proofs.words.first_number.Given as goal

abbrev pub invariant-loop-length : goal.invariant-loop-length
invariant-loop-length l = Short l.text l.length l.number

abbrev pub decreases-loop-length : goal.decreases-loop-length
decreases-loop-length l = l.most - l.length
