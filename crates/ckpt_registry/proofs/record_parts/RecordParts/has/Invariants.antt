-- The loop invariants of `RecordParts::has`.
use Rattle.ckpt_registry.proofs.{◌≡◌, take, times, files_in, parts_from, end_of}
use Rattle.ckpt_registry.proofs.record_parts.RecordParts.has.Given as goal

abbrev pub invariant-loop-cut : goal.invariant-loop-cut
invariant-loop-cut l = record {
  start : l.start ≡ end_of 0 (take l.cut-index l.self-inside.cuts.items);
  none : times l.file (files_in (take l.cut-index (parts_from 0 l.self-inside.cuts.items l.self-inside.files.items))) ≡ 0;
}
