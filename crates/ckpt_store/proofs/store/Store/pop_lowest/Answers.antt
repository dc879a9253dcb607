-- Answers the goals of `Store::pop_lowest`.
use Rattle.ckpt_store.proofs.{IsStored-drop}
use Rattle.ckpt_store.proofs.store.Store.pop_lowest.Goals as goal

pub invariant_of-self-2 : goal.invariant_of-self-2
invariant_of-self-2 c = rw c.pop_front.ensures.rest (IsStored-drop _ _ c.self.invariant)
