-- The loop invariants of `Outbox::take_metered`.
use Rattle.ckpt_outbox.proofs.{◌≡◌, ◌≤◌, ◌++◌, take, drop, vec_len, vec_capacity}
use Rattle.ckpt_outbox.proofs.outbox.Outbox.take_metered.Given as goal

abbrev pub invariant-loop : goal.invariant-loop
invariant-loop l = record {
  self : l.self ≡ record l.fn.self { waiting = drop l.counter l.fn.self.waiting; taken = l.fn.self.taken ++ take l.counter l.fn.self.waiting };
  files : l.files.items ≡ take l.counter l.fn.self.waiting;
  len : vec_len l.files ≡ l.counter;
  room : l.count ≤ vec_capacity l.files;
}
