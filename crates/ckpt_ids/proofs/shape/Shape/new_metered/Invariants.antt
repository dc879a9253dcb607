-- The loop invariants of `Shape::new_metered`.
use Rattle.ckpt_ids.proofs.Names.{◌≡◌, ◌≤◌, sum, take, length, IsShape}
use Rattle.std.specs.Vec.{vec_capacity, vec_len}
use Rattle.ckpt_ids.proofs.shape.Shape.new_metered.Given as goal

abbrev pub invariant-loop-parallelism : goal.invariant-loop-parallelism
invariant-loop-parallelism l = record {
  shape : IsShape l.list;
  items : l.parallelisms.items ≡ take l.parallelism-index l.list;
  size : l.size ≡ sum (take l.parallelism-index l.list);
  len : vec_len l.parallelisms ≡ l.parallelism-index;
  room : length l.list ≤ vec_capacity l.parallelisms;
}
