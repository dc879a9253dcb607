-- The loop invariants of `Parts::saved`.
use Rattle.ckpt_core.proofs.{◌≡◌, ◌-◌, ◌≤◌, ◌^◌, map, nat_lt, take, count_by, record_in, records_in}
use Rattle.ckpt_core.proofs.parts.Parts.saved.Given as goal

abbrev pub invariant-loop-live : goal.invariant-loop-live
invariant-loop-live l = record { saved : map record_in l.saved.items ≡ take (count_by (λ r. nat_lt r.id l.lowest) (records_in l.self)) (records_in l.self); bound : l.lowest ≤ 2 ^ 62; none : l.meter ≡ l.fn.meter }

abbrev pub decreases-loop-live : goal.decreases-loop-live
decreases-loop-live l = 2 ^ 62 - l.lowest
