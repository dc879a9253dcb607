-- Answers the goals of `PendingRecords::first_from`.
use Rattle.ckpt_core.proofs.{◌≡◌, ◌∙◌, ap, sym, ltb, leb, rules, List, Some, true, false, find, IsPartitionPoint, option_copied, option_map, IsPartitionPoint-from_clause, Record, copied_from_get}
use Rattle.ckpt_core.proofs.{find-partition, partitioned, live_of}
use Rattle.ckpt_core.proofs.pending_records.PendingRecords.first_from.Goals as goal

pub returns-in_err-pending-clause-value : goal.returns-in_err-pending-clause-value
returns-in_err-pending-clause-value c = let row : List Record = c.self.inside.records.items in
    let point : IsPartitionPoint (λ r. ltb r.id c.args.id ≡ true) (λ r. ltb r.id c.args.id ≡ false) row c.partition_point-place.result =
    IsPartitionPoint-from_clause (λ r. ltb r.id c.args.id) row c.partition_point-place.result c.partition_point-place.ensures.partitioned (partitioned c.args.id row c.self.invariant.in_order)
    (λ a r g called. search rules) in
    let found : option_copied c.get.result ≡ find (λ r. leb c.args.id r.id) row = copied_from_get c.get.result row c.partition_point-place.result c.get.ensures.item.0 c.get.ensures.lookup
    ∙ find-partition c.args.id row c.partition_point-place.result point in
    c.from_residual.ensures ∙ ap (λ o. option_map live_of (option_copied o)) (sym c.in_err-pending.was) ∙ ap (option_map live_of) (found ∙ ap (find (λ r. leb c.args.id r.id)) c.self.view_is)

pub returns-clause-value : goal.returns-clause-value
returns-clause-value c = let row : List Record = c.self.inside.records.items in
    let point : IsPartitionPoint (λ r. ltb r.id c.args.id ≡ true) (λ r. ltb r.id c.args.id ≡ false) row c.partition_point-place.result =
    IsPartitionPoint-from_clause (λ r. ltb r.id c.args.id) row c.partition_point-place.result c.partition_point-place.ensures.partitioned (partitioned c.args.id row c.self.invariant.in_order)
    (λ a r g called. search rules) in
    let found : option_copied c.get.result ≡ find (λ r. leb c.args.id r.id) row = copied_from_get c.get.result row c.partition_point-place.result c.get.ensures.item.0 c.get.ensures.lookup
    ∙ find-partition c.args.id row c.partition_point-place.result point in
    ap (λ r. Some r) c.live_pending.ensures ∙ ap (λ o. option_map live_of (option_copied o)) (sym c.in_ok-pending.was) ∙ ap (option_map live_of)
    (found ∙ ap (find (λ r. leb c.args.id r.id)) c.self.view_is)
