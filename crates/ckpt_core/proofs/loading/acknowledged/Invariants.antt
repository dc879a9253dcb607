-- The loop invariants of `acknowledged`.
use Rattle.ckpt_core.proofs.{◌≡◌, take, pending_record}
use Rattle.ckpt_core.proofs.loading.acknowledged.Given as goal

abbrev pub invariant-loop-acked : goal.invariant-loop-acked
invariant-loop-acked l = record {
  pending : l.pending ≡ pending_record l.metadata.id l.metadata.kind l.metadata.shape l.metadata.started (take l.acked-index l.acked-items);
  none : l.meter ≡ l.fn.meter;
}
