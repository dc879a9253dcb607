-- Answers the goals of `Shape::size`.
use Rattle.ckpt_ids.proofs.Names.{◌∙◌, sym, arc_slice_items}
use Rattle.ckpt_ids.proofs.ShapeLemmas.{length-subtasks_from}
use Rattle.ckpt_ids.proofs.shape.Shape.size.Goals as goal

pub returns-clause-value : goal.returns-clause-value
returns-clause-value c = rw (← c.self.view_is) (c.self.invariant.1 ∙ sym (length-subtasks_from 0 (arc_slice_items c.self.inside.parallelisms)))
