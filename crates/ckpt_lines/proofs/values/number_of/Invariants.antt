-- The loop invariants of `number_of`.
use Rattle.ckpt_lines.proofs.{Spells}
use Rattle.ckpt_lines.proofs.values.number_of.Given as goal

abbrev pub invariant-loop-byte : goal.invariant-loop-byte
invariant-loop-byte l = Spells l.word l.byte-index l.number
