-- The loop invariants of `numbers`.
use Rattle.ckpt_lines.proofs.{◌≡◌, length, each, number, with_front}
use Rattle.ckpt_lines.proofs.ListLemmas.{HasBegun}
use Rattle.ckpt_lines.proofs.lists.numbers.Given as goal

abbrev pub invariant-loop-word : goal.invariant-loop-word
invariant-loop-word l = (with_front l.list.items (each number l.words) ≡ each number l.initial.words) × HasBegun l.words l.initial.words

abbrev pub decreases-loop-word : goal.decreases-loop-word
decreases-loop-word l = length l.words
