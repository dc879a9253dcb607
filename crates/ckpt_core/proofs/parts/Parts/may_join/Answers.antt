-- Answers the goals of `Parts::may_join`.
use Rattle.ckpt_core.proofs.{◌∙◌, sym, both_ways, record_in, records_in, above_all, no_live, not_above_all, some_live}
use Rattle.ckpt_core.proofs.parts.Parts.may_join.Goals as goal

pub first_from-requires : goal.first_from-requires
first_from-requires c = c.requires.in_order

pub returns-then-is_some-clause-no : goal.returns-then-is_some-clause-no
returns-then-is_some-clause-no c = λ e j.
    let k = some_live c.first_from.result (sym c.is_some.ensures ∙ c.if-is_some.true) in
    not_above_all (record_in c.args.saved.now).id (records_in c.args.self.now) c.first_from.result k.0 c.first_from.ensures k.1 j.above

pub returns-then-not-lies_in-clause-no : goal.returns-then-not-lies_in-clause-no
returns-then-not-lies_in-clause-no c = λ e j. both_ways c.lies_in.result c.if-not-lies_in.true (c.lies_in.ensures.1 (j.from_first, j.below_next))

pub returns-then-not-is_before-clause-no : goal.returns-then-not-is_before-clause-no
returns-then-not-is_before-clause-no c = λ e j. both_ways c.is_before.result c.if-not-is_before.true (c.is_before.ensures.1 j.started)

pub returns-clause-yes : goal.returns-clause-yes
returns-clause-yes c = λ yes ir.
    let none = no_live c.first_from.result (sym c.is_some.ensures ∙ c.if-is_some.false) in
    let room = c.has_room_for.ensures.yes yes in
    let place = c.lies_in.ensures.0 c.if-not-lies_in.false in
    record {
      above = above_all (record_in c.args.saved.now).id (records_in c.args.self.now) c.first_from.result c.first_from.ensures none;
      from_first = place.0;
      below_next = place.1;
      is_record = ir;
      started = c.is_before.ensures.0 c.if-not-is_before.false;
      retained = room.retained;
      at_once = room.at_once;
      savepoints = room.savepoints;
      newer = room.newer;
    }

pub returns-clause-no : goal.returns-clause-no
returns-clause-no c = λ no j. c.has_room_for.ensures.no no (record { retained = j.retained; at_once = j.at_once; savepoints = j.savepoints; newer = j.newer })
