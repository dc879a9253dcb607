-- Answers the goals of `has_known_from`.
use Rattle.ckpt_terms.proofs.Imports.{arith}
use Rattle.ckpt_terms.proofs.{KnownFiles.in_image, scan.has_known_from.Goals.then-any_used_from, scan.has_known_from.Goals.else-any_used_from}
use Rattle.ckpt_terms.proofs.scan.has_known_from.Goals as goal

pub returns-then-any_from : goal.returns-then-any_from
returns-then-any_from c = elim c.if-any_used_from.branch [
  | then-any_used_from w ↦ grind (arith, in_image c.args.image.now c.args.first, w, c.if-any_from.true, c.any_used_from.ensures, c.deref.ensures)
  | else-any_used_from w ↦ grind (arith, in_image c.args.image.now c.args.first, w, c.if-any_from.true, c.any_used_from.ensures, c.deref.ensures)
]

pub returns-else-any_from : goal.returns-else-any_from
returns-else-any_from c = elim c.if-any_used_from.branch [
  | then-any_used_from w ↦ grind
      (arith, in_image c.args.image.now c.args.first, w, c.if-any_from.false, c.any_used_from.ensures, c.deref.ensures, c.any_from-else-any_from.ensures, c.as_slice-else-any_from.ensures)
  | else-any_used_from w ↦ grind
      (arith, in_image c.args.image.now c.args.first, w, c.if-any_from.false, c.any_used_from.ensures, c.deref.ensures, c.any_from-else-any_from.ensures, c.as_slice-else-any_from.ensures)
]
