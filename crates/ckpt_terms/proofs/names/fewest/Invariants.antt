-- The loop of `fewest`.
use Rattle.ckpt_terms.proofs.Imports.{◌≤◌, take, length, vec_len, vec_capacity}
use Rattle.ckpt_terms.proofs.JoinLemmas.{AreFewest}
use Rattle.ckpt_terms.proofs.names.fewest.Given as goal

abbrev pub invariant-loop-span : goal.invariant-loop-span
invariant-loop-span l = AreFewest l.spans.items (take l.span-index l.ranges) × (vec_len l.spans ≤ l.span-index) × (length l.ranges ≤ vec_capacity l.spans)
