-- Answers the goals of `Parts::make_room`.
use Rattle.ckpt_core.proofs.{arith, on_ok_weaker, length-records_of, state-ended}
use Rattle.ckpt_core.proofs.parts.Parts.make_room.Goals as goal

pub overflow_add-live : goal.overflow_add-live
overflow_add-live c = let p = c.args.self.now in omega (arith, length-records_of p.registry p.pending p.store.checkpoints p.store.savepoints, c.requires)

pub overflow_add-live-2 : goal.overflow_add-live-2
overflow_add-live-2 c = let p = c.args.self.now in omega (arith, length-records_of p.registry p.pending p.store.checkpoints p.store.savepoints, c.requires)

pub overflow_add-live-3 : goal.overflow_add-live-3
overflow_add-live-3 c = let p = c.args.self.now in omega (arith, length-records_of p.registry p.pending p.store.checkpoints p.store.savepoints, c.requires)

pub returns-clause-room : goal.returns-clause-room
returns-clause-room c =
    let p = c.args.self.now in
    on_ok_weaker c.reserve.result (λ h. omega (arith, length-records_of p.registry p.pending p.store.checkpoints p.store.savepoints, h)) c.reserve.ensures.ok

pub returns-clause-state : goal.returns-clause-state
returns-clause-state c = state-ended c.args.self.now c.reserve.new.list
