-- Answers the goals of `Store::checkpoints`.
use Rattle.ckpt_store.proofs.{arith, rules, ◌<◌, ◌^◌}
use Rattle.ckpt_store.proofs.store.Store.checkpoints.Goals as goal

pub overflow_cast-result : goal.overflow_cast-result
overflow_cast-result c =
    let small : c.len.result < 2 ^ 32 = omega (arith, c.len.ensures, c.self.invariant.few, c.self.invariant.retained_to, c.self.inside.checkpoints.ok.0) in
    search rules
