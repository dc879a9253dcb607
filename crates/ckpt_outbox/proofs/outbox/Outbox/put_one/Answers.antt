-- Answers the goals of `Outbox::put_one`.
use Rattle.ckpt_outbox.proofs.{◌≡◌, ◌∙◌, ℕ, List, [], ◌∷◌, ◌++◌, Some, cond, false, ap, is_known, length, nat_eq, arith, is_in, ticket, distinct_put, ticketed_put, map_get, common_steps}
use Rattle.ckpt_outbox.proofs.outbox.Outbox.put_one.Goals as goal

pub invariant_of-self : goal.invariant_of-self
invariant_of-self c =
    let file : ℕ = c.args.file in
    let waiting : List ℕ = c.self.inside.waiting.items in
    let taken : List ℕ = c.self.inside.taken in
    let items : c.push_back_reserved.new.self.items ≡ waiting ++ file ∷ [] = c.push_back_reserved.ensures.items in
    let new : is_in file (waiting ++ taken) ≡ false = ap (λ q. is_known q file) c.self.view_is ∙ c.requires.unknown in
    let changed : (q : ℕ) → map_get nat_eq c.note.new.index q ≡ cond (nat_eq file q) (Some (ticket c.self.inside.front (length waiting))) (map_get nat_eq c.self.inside.index q) = λ q.
    rw (← c.next_ticket-drawn.ensures) (c.note.ensures.tickets.0 q) in
    record {
      distinct = rw items (distinct_put file waiting taken c.self.invariant.distinct new);
      place_room = grind (arith, common_steps);
      index_room = grind arith;
      known = λ q. rw items (grind (arith, common_steps, changed q, c.self.invariant.known q));
      ticketed = rw items (ticketed_put _ _ _ file waiting changed (grind (arith, common_steps)) c.self.invariant.ticketed);
    }
