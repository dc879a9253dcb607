-- The record at the place is that of the number, and it lacks an acknowledgement.
use Rattle.ckpt_core.proofs.{◌≡◌, ◌<◌, ◌∙◌, Some, sym, arith, find, missing, on_each_error, has_id, find-place, IsTaking, acked_wants, it_lacks, parts.Parts.ack.Goals.After-missing-missing}
use Rattle.ckpt_core.proofs.parts.Parts.ack.Goals as goal

found : (c : After-missing-missing) → find (has_id c.args.id) c.args.self.now.pending ≡ Some c.at.result.now
found c = sym (find-place c.args.id c.args.self.now.pending c.args.place c.recall.ensures.in_order c.requires.place) ∙ c.at.ensures

taking : (c : After-missing-missing) → IsTaking c.args.self.now c.args.now c.args.id c.args.subtask c.args.fresh.now c.args.reused.now c.at.result.now
taking c =
    record { sound = c.requires.sound; accepted = c.requires.accepted; pending = c.recall.ensures.pending; in_order = c.recall.ensures.in_order; stored = c.recall_store.ensures; found = found c }

pub ack_waiting-requires-clause-waiting : goal.ack_waiting-requires-clause-waiting
ack_waiting-requires-clause-waiting c =
    record { lacking = c.at.result.now; found = found (goal.at.ack_waiting-requires-clause-waiting c).After-missing-missing; counted = sym c.missing-missing.ensures.value }

pub returns-then-missing-gt1-clause-memory : goal.returns-then-missing-gt1-clause-memory
returns-then-missing-gt1-clause-memory c = on_each_error c.ack_waiting.result _ (acked_wants (taking (goal.at.returns-then-missing-gt1-clause-memory c).After-missing-missing))

pub ack_last-requires-clause-last : goal.ack_last-requires-clause-last
ack_last-requires-clause-last c =
    let there = found (goal.at.ack_last-requires-clause-last c).After-missing-missing in
    let some : 0 < missing c.at.result.now = it_lacks c.args.self.now c.args.id c.at.result.now c.requires.sound.sound there c.recall.ensures.pending in
    record { lacking = c.at.result.now; found = there; counted = omega (arith, some, c.if-missing-gt1.false, c.missing-missing.ensures.value) }

pub returns-else-missing-gt1-clause-memory : goal.returns-else-missing-gt1-clause-memory
returns-else-missing-gt1-clause-memory c = on_each_error c.ack_last.result _ (acked_wants (taking (goal.at.returns-else-missing-gt1-clause-memory c).After-missing-missing))
