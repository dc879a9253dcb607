-- Answers the goals of `Outbox::undeleted`.
use Rattle.ckpt_outbox.proofs.{◌≡◌, ◌+◌, ℕ, List, [], ◌∷◌, ◌++◌, false, true, length, arith, is_in, distinct_undeleted, distinct-apart, in_without, length-without, list_any_flip, ticketed_put}
use Rattle.ckpt_outbox.proofs.{AreDistinct-right, common_steps}
use Rattle.ckpt_outbox.proofs.outbox.Outbox.undeleted.Goals as goal

pub returns-then-not-draw_again-clause-refused : goal.returns-then-not-draw_again-clause-refused
returns-then-not-draw_again-clause-refused c =
    grind (arith, common_steps, list_any_flip c.args.file, distinct-apart c.self.inside.waiting.items c.self.inside.taken c.self.invariant.distinct c.args.file, c.self.invariant.known c.args.file)

pub remove-requires-clause-distinct : goal.remove-requires-clause-distinct
remove-requires-clause-distinct c = AreDistinct-right c.self.inside.waiting.items c.self.inside.taken c.self.invariant.distinct

pub invariant_of-self-2 : goal.invariant_of-self-2
invariant_of-self-2 c =
    let file : ℕ = c.args.file in
    let waiting : List ℕ = c.self.inside.waiting.items in
    let taken : List ℕ = c.self.inside.taken in
    let there : (is_in file waiting ≡ false) × (is_in file taken ≡ true) = grind (arith, common_steps, c.self.invariant.known file) in
    let less : length c.remove.new.self + 1 ≡ length taken = rw c.remove.ensures (length-without file taken (AreDistinct-right waiting taken c.self.invariant.distinct) there.1) in
    let items : c.push_back_reserved.new.self.items ≡ waiting ++ file ∷ [] = c.push_back_reserved.ensures.items in
    let changed = (c.draw_again.ensures.tickets c.if-not-draw_again.false).0 in
    record {
      distinct = rw (items, c.remove.ensures) (distinct_undeleted file waiting taken c.self.invariant.distinct there.0);
      place_room = grind (arith, common_steps, less);
      index_room = omega (arith, c.self.invariant.index_room);
      known = λ q. rw (items, c.remove.ensures) (grind (arith, common_steps, in_without, changed q, c.self.invariant.known q));
      ticketed = rw items (ticketed_put _ _ _ file waiting changed there.0 c.self.invariant.ticketed);
    }
