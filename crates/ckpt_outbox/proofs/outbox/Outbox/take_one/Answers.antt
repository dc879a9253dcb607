-- Answers the goals of `Outbox::take_one`.
use Rattle.ckpt_outbox.proofs.{◌≡◌, ℕ, List, [], ◌∷◌, arith, nat_eq, map_get, distinct_taken, ticketed_taken, common_steps}
use Rattle.ckpt_outbox.proofs.outbox.Outbox.take_one.Goals as goal

pub invariant_of-self : goal.invariant_of-self
invariant_of-self c =
    let file : ℕ = c.in-Some.file in
    let rest : List ℕ = c.pop_front.new.self.items in
    let taken : List ℕ = c.self.inside.taken in
    let items : c.self.inside.waiting.items ≡ file ∷ rest = c.in-Some.ensures.items in
    record {
      distinct = rw c.push.ensures (distinct_taken (file ∷ []) rest taken (rw items at c.self.invariant.distinct));
      place_room = grind (arith, common_steps);
      index_room = c.self.invariant.index_room;
      known = λ q. rw c.push.ensures (grind (arith, common_steps, rw items at (c.self.invariant.known q)));
      ticketed = ticketed_taken (map_get nat_eq c.self.inside.index) c.self.inside.front file rest (rw items at c.self.invariant.ticketed);
    }
