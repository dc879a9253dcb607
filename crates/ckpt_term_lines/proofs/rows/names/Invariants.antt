-- The loop invariants of `names`.
use Rattle.ckpt_term_lines.proofs.Names.{◌≡◌, length, each, number, with_front, HasBegun}
use Rattle.ckpt_term_lines.proofs.rows.names.Given as goal

abbrev pub invariant-loop-word : goal.invariant-loop-word
invariant-loop-word l = (with_front l.list.items (each number l.words) ≡ each number l.initial.words) × HasBegun l.words l.initial.words

abbrev pub decreases-loop-word : goal.decreases-loop-word
decreases-loop-word l = length l.words
