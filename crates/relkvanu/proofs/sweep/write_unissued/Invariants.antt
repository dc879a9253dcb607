-- The loop invariants of `write_unissued`.
use Rattle.relkvanu.proofs.Imports.{◌≡◌, ◌≤◌, leb, length, take, drop, filter}
use Rattle.relkvanu.proofs.sweep.write_unissued.Given as goal

abbrev pub invariant-loop-place : goal.invariant-loop-place
invariant-loop-place l = record {
  count : l.count ≡ length (filter (leb l.next_name) (take l.place l.files));
  front : take l.count l.out ≡ filter (leb l.next_name) (take l.place l.files);
  rest : drop l.count l.out ≡ drop l.count l.initial.out;
  as_long : length l.out ≡ length l.initial.out;
  few : l.count ≤ l.place;
}
