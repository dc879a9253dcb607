-- The loop of `count_names`.
use Rattle.ckpt_terms.proofs.Imports.{take}
use Rattle.ckpt_terms.proofs.Counted.{AreCounted}
use Rattle.ckpt_terms.proofs.image.count_names.Given as goal

abbrev pub invariant-loop-span : goal.invariant-loop-span
invariant-loop-span l = AreCounted (take l.span-index l.ranges) l.last l.held
