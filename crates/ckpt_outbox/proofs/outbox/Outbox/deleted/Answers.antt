-- Answers the goals of `Outbox::deleted`.
use Rattle.ckpt_outbox.proofs.{◌≡◌, ◌+◌, ℕ, List, false, true, length, arith, is_in, distinct_deleted, distinct-apart, in_without, length-without, list_any_flip, ticketed_apart, AreDistinct-right}
use Rattle.ckpt_outbox.proofs.{common_steps}
use Rattle.ckpt_outbox.proofs.outbox.Outbox.deleted.Goals as goal

pub returns-then-not-is_taken-clause-refused : goal.returns-then-not-is_taken-clause-refused
returns-then-not-is_taken-clause-refused c =
    grind (arith, common_steps, list_any_flip c.args.file, distinct-apart c.self.inside.waiting.items c.self.inside.taken c.self.invariant.distinct c.args.file, c.self.invariant.known c.args.file)

pub remove-requires-clause-distinct : goal.remove-requires-clause-distinct
remove-requires-clause-distinct c = AreDistinct-right c.self.inside.waiting.items c.self.inside.taken c.self.invariant.distinct

pub invariant_of-self : goal.invariant_of-self
invariant_of-self c =
    let file : ℕ = c.args.file in
    let waiting : List ℕ = c.self.inside.waiting.items in
    let taken : List ℕ = c.self.inside.taken in
    let there : (is_in file waiting ≡ false) × (is_in file taken ≡ true) = grind (arith, common_steps, c.self.invariant.known file) in
    let less : length c.remove.new.self + 1 ≡ length taken = rw c.remove.ensures (length-without file taken (AreDistinct-right waiting taken c.self.invariant.distinct) there.1) in
    record {
      distinct = rw c.remove.ensures (distinct_deleted file waiting taken c.self.invariant.distinct);
      place_room = omega (arith, c.self.invariant.place_room);
      index_room = omega (arith, c.self.invariant.index_room);
      known = λ q. rw c.remove.ensures (grind (arith, common_steps, in_without, c.remove-2.ensures.updates.0 q, c.self.invariant.known q));
      ticketed = ticketed_apart _ _ _ file waiting _ c.remove-2.ensures.updates.0 there.0 c.self.invariant.ticketed;
    }
