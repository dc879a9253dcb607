-- The loop invariants of `Requests::files`.
use Rattle.relkvanu.proofs.Imports.{◌≡◌, ◌≤◌, length, take, vec_capacity, vec_len}
use Rattle.relkvanu.proofs.requests.Requests.files.Given as goal

abbrev pub invariant-loop-place : goal.invariant-loop-place
invariant-loop-place l = record {
  items : l.files.items ≡ take l.place l.numbers;
  len : vec_len l.files ≡ l.place;
  room : length l.numbers ≤ vec_capacity l.files;
}
