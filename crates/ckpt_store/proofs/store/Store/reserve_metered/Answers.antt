-- Answers the goals of `Store::reserve_metered`.
use Rattle.ckpt_store.proofs.{IsStored-spare}
use Rattle.ckpt_store.proofs.store.Store.reserve_metered.Goals as goal

pub invariant_of-self : goal.invariant_of-self
invariant_of-self c = rw c.make_room.ensures.items (IsStored-spare _ _ c.self.invariant)

pub invariant_of-self-2 : goal.invariant_of-self-2
invariant_of-self-2 c = rw (c.make_room.ensures.items, c.make_room-2.ensures.items) (IsStored-spare _ _ c.self.invariant)
