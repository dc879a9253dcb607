-- Answers the goals of `Outbox::reserve_metered`.
use Rattle.ckpt_outbox.proofs.{◌≡◌, get_or, arith}
use Rattle.ckpt_outbox.proofs.outbox.Outbox.reserve_metered.Goals as goal

pub invariant_of-self-2 : goal.invariant_of-self-2
invariant_of-self-2 c =
    let items : c.grow.new.waiting.items ≡ c.self.inside.waiting.items = c.grow.ensures.items in
    record {
      distinct = rw items c.self.invariant.distinct;
      place_room = omega (arith, c.in_ok-grow.ensures.ok, c.grow.new.waiting.ok.0, c.grow.new.waiting.small.0);
      index_room = c.in_ok-reserve.ensures.ok;
      known = λ q. rw (items, c.reserve.ensures.entries.2 q) (c.self.invariant.known q);
      ticketed = rw items (λ place within. rw (c.reserve.ensures.entries.2 (get_or c.self.inside.waiting.items place 0)) (c.self.invariant.ticketed place within));
    }
