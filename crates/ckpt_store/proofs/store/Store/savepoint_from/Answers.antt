-- Answers the goals of `Store::savepoint_from`.
use Rattle.ckpt_store.proofs.{IsPartitionPoint-from_clause, List, Record, copied_from_get, find-partition, ltb, partitioned, rules, ◌∙◌}
use Rattle.ckpt_store.proofs.store.Store.savepoint_from.Goals as goal

pub returns-clause-value : goal.returns-clause-value
returns-clause-value c =
    let row : List Record = c.self.inside.savepoints.items in
    let place = c.partition_point-place.result in
    let point = IsPartitionPoint-from_clause (λ r. ltb r.id c.args.id) row place c.partition_point-place.ensures.partitioned (partitioned c.args.id row c.self.invariant.savepoints_rise)
    (λ a r g called. search rules) in
    rw (← c.self.view_is) (copied_from_get c.get.result row place c.get.ensures.item.0 c.get.ensures.lookup ∙ find-partition c.args.id row place point)
