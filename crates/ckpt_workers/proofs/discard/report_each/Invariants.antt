-- The loop invariants of `report_each`.
use Rattle.ckpt_workers.proofs.{IsReported, drop, false, length, ◌+◌, ◌≡◌}
use Rattle.ckpt_workers.proofs.discard.report_each.Given as goal

abbrev pub invariant-loop-place : goal.invariant-loop-place
invariant-loop-place g l = record {
  reported : IsReported l.files l.fn.gone (g.S.Storage.stored l.fn.storage) (g.S.Storage.stored l.storage) l.fn.pass l.pass
      (record { taken = length l.files; deleted = l.counts.deleted; failed = l.counts.failed; left = drop l.place l.files; gone = l.gone; memory = false });
  counted : l.counts.deleted + l.counts.failed ≡ l.place;
}
