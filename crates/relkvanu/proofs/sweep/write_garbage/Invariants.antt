-- The loop invariants of `write_garbage`.
use Rattle.relkvanu.proofs.Imports.{◌≡◌, ◌≤◌, length, take, drop, filter, is_garbage}
use Rattle.relkvanu.proofs.sweep.write_garbage.Given as goal

abbrev pub invariant-loop-place : goal.invariant-loop-place
invariant-loop-place l = record {
  count : l.count ≡ length (filter (is_garbage l.terms) (take l.place l.files));
  front : take l.count l.out ≡ filter (is_garbage l.terms) (take l.place l.files);
  rest : drop l.count l.out ≡ drop l.count l.initial.out;
  as_long : length l.out ≡ length l.initial.out;
  few : l.count ≤ l.place;
}
