-- Answers the goals of `Outbox::take_metered`.
use Rattle.ckpt_outbox.proofs.{◌≡◌, ◌+◌, ◌<◌, ℕ, List, [], ◌∷◌, ◌++◌, take, drop, length, append_assoc, ap, arith, drop_more, take_more, Queues}
use Rattle.ckpt_outbox.proofs.outbox.Outbox.take_metered.Goals as goal

pub loop-preserved : goal.loop-preserved
loop-preserved c =
    let waiting : List ℕ = c.args.self.now.waiting in
    let counter : ℕ = c.loop.counter in
    let file : ℕ = c.take_one.result in
    let rest : List ℕ = c.take_one.new.self.waiting in
    let so_far = c.loop.invariant in
    let within : counter < length waiting = omega (arith, ap (λ (q : Queues). length q.waiting) c.self.view_is) in
    let first : drop counter waiting ≡ file ∷ rest = rw so_far.self at c.take_one.ensures.first in
    let left : drop (counter + 1) waiting ≡ rest = grind (arith, drop_more waiting counter file within) in
    let more : take (counter + 1) waiting ≡ take counter waiting ++ file ∷ [] = grind (arith, drop_more waiting counter file within, take_more waiting counter file within) in
    record {
      self = rw (c.take_one.ensures.taken, so_far.self, left, more, append_assoc);
      files = rw (c.push_reserved.ensures.items, so_far.files, more);
      len = omega (arith, so_far.len);
      room = omega (arith, so_far.room);
    }
