-- Each number is noted already or that of a checkpoint which is still in the store, and those still there are the newest ones.
use Rattle.ckpt_core.proofs.{◌≡◌, ◌++◌, ◌-◌, ◌≤◌, length, vec_capacity, numbers}
use Rattle.ckpt_core.specs.Inside.Settings.{newest}
use Rattle.ckpt_core.proofs.parts.Parts.note_and_pop_past.Given as goal

abbrev pub invariant-loop-self : goal.invariant-loop-self
invariant-loop-self l = record {
  items : l.self.ended.items ++ numbers l.self.store.checkpoints ≡ l.fn.self.ended.items ++ numbers l.fn.self.store.checkpoints;
  capacity : vec_capacity l.self.ended ≡ vec_capacity l.fn.self.ended;
  parts : l.self ≡ record l.fn.self { store = record l.fn.self.store { checkpoints = l.self.store.checkpoints; spare = l.self.store.spare }; ended = l.self.ended };
  rest : l.self.store.checkpoints ≡ newest (length l.self.store.checkpoints) l.fn.self.store.checkpoints;
  enough : length l.fn.self.store.checkpoints - length l.self.store.checkpoints ≤ length l.fn.self.store.checkpoints - l.retained;
}

abbrev pub decreases-loop-self : goal.decreases-loop-self
decreases-loop-self l = length l.self.store.checkpoints
