-- Each number is noted already or that of a checkpoint which is still in the store.
use Rattle.ckpt_core.proofs.{◌≡◌, ◌++◌, length, vec_capacity, numbers}
use Rattle.ckpt_core.proofs.parts.Parts.note_and_pop_checkpoints.Given as goal

abbrev pub invariant-loop-id : goal.invariant-loop-id
invariant-loop-id l = record {
  items : l.self.ended.items ++ numbers l.self.store.checkpoints ≡ l.fn.self.ended.items ++ numbers l.fn.self.store.checkpoints;
  capacity : vec_capacity l.self.ended ≡ vec_capacity l.fn.self.ended;
  parts : l.self ≡ record l.fn.self { store = record l.fn.self.store { checkpoints = l.self.store.checkpoints; spare = l.self.store.spare }; ended = l.self.ended };
}

abbrev pub decreases-loop-id : goal.decreases-loop-id
decreases-loop-id l = length l.self.store.checkpoints
