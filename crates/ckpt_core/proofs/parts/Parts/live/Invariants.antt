-- The loop invariants of `Parts::live`.
use Rattle.ckpt_core.proofs.{◌≡◌, nat_lt, count_by, records_in}
use Rattle.ckpt_core.proofs.parts.Parts.live.Given as goal

abbrev pub invariant-loop : goal.invariant-loop
invariant-loop l = count_by (λ r. nat_lt r.id l.lowest) (records_in l.self) ≡ l.counter
