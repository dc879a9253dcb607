-- The loop invariants of `write_parallelisms`.
use Rattle.relkvanu.proofs.Imports.{◌≡◌, length, take, drop}
use Rattle.relkvanu.proofs.saying.write_parallelisms.Given as goal

abbrev pub invariant-loop-place : goal.invariant-loop-place
invariant-loop-place l = record {
  front : take l.place l.first ≡ take l.place l.shape;
  rest : drop l.place l.first ≡ drop l.place l.initial.first;
  as_long : length l.first ≡ length l.initial.first;
}
