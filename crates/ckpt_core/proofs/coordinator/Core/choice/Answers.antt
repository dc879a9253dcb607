-- The records of a sound coordinator are in order.
use Rattle.ckpt_core.specs.Inside.Parts.{state_of}
use Rattle.ckpt_core.proofs.coordinator.Core.choice.Goals as goal

pub choice-requires : goal.choice-requires
unfolding state_of
choice-requires c = c.self.invariant.sound.records.in_order
