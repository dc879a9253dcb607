-- The loop invariants of `register`.
use Rattle.ckpt_core.proofs.{◌≡◌, ◌++◌, take, uses_of_acks}
use Rattle.ckpt_core.proofs.loading.register.Given as goal

abbrev pub invariant-loop-acked : goal.invariant-loop-acked
invariant-loop-acked l = record {
  registry : l.registry ≡ l.initial.registry ++ uses_of_acks l.id (take l.acked-index l.acked-items);
  none : l.meter ≡ l.fn.meter;
}
