-- The loop invariants of `write_files`.
use Rattle.relkvanu.proofs.Imports.{◌≡◌, length, take, drop}
use Rattle.relkvanu.proofs.buffers.write_files.Given as goal

abbrev pub invariant-loop-place : goal.invariant-loop-place
invariant-loop-place l = record {
  front : take l.place l.files ≡ take l.place l.list;
  rest : drop l.place l.files ≡ drop l.place l.initial.files;
  as_long : length l.files ≡ length l.initial.files;
}
